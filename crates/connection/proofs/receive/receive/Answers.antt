-- `receive::receive`: 16, 6, the framing, then the records.
use mathlib.Core.Path.{sym, refl, ◌∙◌, ap}
use lib.ListN.{length, take}
use Rattle.digest.proofs.Picks.{if_eq, if_ne, if_lt, if_ge}
use Rattle.digest.specs.Bytes.{laid_over}
use Rattle.connection.specs.Receive.{received_of, output_of, run_of, first_reply}
use Rattle.connection.proofs.Filling.{filled_whole}
use Rattle.connection.proofs.Running.{walk_sound, walk_refused, laid_nothing}
use native.Mathlib.Omega.{arith}
use Rattle.connection.proofs.receive.receive.Goals as goal

pub returns-then-random-ne16 : goal.returns-then-random-ne16
unfolding received_of output_of
returns-then-random-ne16 c = let random = c.args.random.now in
    record { exact = if_ne _ (length random) 16 (λ z. omega arith) c.whole.ensures; bytes = if_ne _ (length random) 16 (λ z. omega arith) refl }

pub returns-then-out-lt128 : goal.returns-then-out-lt128
unfolding received_of output_of
returns-then-out-lt128 c = let args = c.args in
    let random = args.random.now in
    let out = args.out.now in record { exact = if_eq _ (length random) 16 (omega arith) (if_lt _ (length out) 128 (omega arith) c.whole-then-out-lt128.ensures); bytes = if_eq _ (length random) 16 (omega arith) (if_lt _ (length out) 128 (omega arith) refl) }

pub each-requires : goal.each-requires
each-requires c = let args = c.args in
    let w = c.in-Ok.walk in
    let ours = filled_whole 16 args.random.now c.put.new.d c.if-random-ne16.false c.put.ensures.exact in
    (ap length ours ∙ c.if-random-ne16.false, (sym c.walked.ensures ∙ c.in-Ok.is, omega (arith, c.if-out-lt128.false)))

pub returns-in-Err-clause-exact : goal.returns-in-Err-clause-exact
unfolding received_of output_of
returns-in-Err-clause-exact c = let args = c.args in
    let random = args.random.now in
    let out = args.out.now in
    rw (walk_refused args.datagram.now _ (sym c.walked.ensures ∙ c.in-Err.is)) (if_eq _ (length random) 16 (omega arith) (if_ge _ (length out) 128 (omega arith) c.whole-in-Err.ensures))

pub returns-in-Err-clause-bytes : goal.returns-in-Err-clause-bytes
unfolding received_of output_of
returns-in-Err-clause-bytes c = let args = c.args in
    let random = args.random.now in
    let out = args.out.now in
    rw (walk_refused args.datagram.now _ (sym c.walked.ensures ∙ c.in-Err.is)) (if_eq _ (length random) 16 (omega arith) (if_ge _ (length out) 128 (omega arith) (laid_nothing out)))

pub returns-in-Ok-clause-exact : goal.returns-in-Ok-clause-exact
unfolding received_of output_of
returns-in-Ok-clause-exact c = let args = c.args in
    let random = args.random.now in
    let out = args.out.now in
    let h = args.c in
    let d = args.datagram.now in
    let w = c.in-Ok.walk in
    let rs = take w.count w.records in
    let ours = filled_whole 16 args.random.now c.put.new.d c.if-random-ne16.false c.put.ensures.exact in
    let all = c.each.ensures.value ∙ ap (λ x. run_of h x d rs) ours in
    let bytes = c.each.ensures.out_after ∙ ap (λ x. laid_over out 0 (first_reply h x d rs)) ours in
    rw (walk_sound d w (sym c.walked.ensures ∙ c.in-Ok.is)) (if_eq _ (length random) 16 (omega arith) (if_ge _ (length out) 128 (omega arith) all))

pub returns-in-Ok-clause-bytes : goal.returns-in-Ok-clause-bytes
unfolding received_of output_of
returns-in-Ok-clause-bytes c = let args = c.args in
    let random = args.random.now in
    let out = args.out.now in
    let h = args.c in
    let d = args.datagram.now in
    let w = c.in-Ok.walk in
    let rs = take w.count w.records in
    let ours = filled_whole 16 args.random.now c.put.new.d c.if-random-ne16.false c.put.ensures.exact in
    let all = c.each.ensures.value ∙ ap (λ x. run_of h x d rs) ours in
    let bytes = c.each.ensures.out_after ∙ ap (λ x. laid_over out 0 (first_reply h x d rs)) ours in
    rw (walk_sound d w (sym c.walked.ensures ∙ c.in-Ok.is)) (if_eq _ (length random) 16 (omega arith) (if_ge _ (length out) 128 (omega arith) bytes))
