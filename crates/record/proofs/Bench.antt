-- The laws of the test bench (02, P12), all in one.
use Rattle.record.specs.Bench.{BenchLaws}
use Rattle.record.proofs.Joining as joining
use Rattle.record.proofs.Masking as masking
use Rattle.record.proofs.Swapping as swapping

pub bench_laws : BenchLaws
bench_laws =
    record {
      joined = joining.joined;
      unmasked = masking.unmasked;
      swapped = swapping.swapped;
      apart = joining.apart;
      masked_odd = masking.masked_odd;
      either_order = swapping.either_order;
      one_order = swapping.one_order;
    }
