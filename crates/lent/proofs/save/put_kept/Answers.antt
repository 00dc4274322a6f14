-- `save::put_kept`: four fields.
use mathlib.Core.Path.{◌≡◌, refl}
use Prim.Native.Nat.{◌<◌}
use native.Mathlib.Omega.{arith}
use lib.ListN.{length}
use Rattle.lent.proofs.Laying.{laid_none, laid_more, length_eight}
use Rattle.digest.specs.Bytes.{bytes8}
use borrow.Author.Rules.{rules}
use Rattle.lent.proofs.save.put_kept.Goals as goal

pub returns : goal.returns
returns c = let d = c.args.d.now in
    let kept = c.args.kept in
    let l-hello : length kept.hello ≡ 256 = search (rules, c.well_formed.1.0) in
    let l-reply : length kept.reply ≡ 84 = search (rules, c.well_formed.1.0) in
    let one = laid_more 75 256 kept.hello kept.hello c.put.new.d (laid_none d 75 (omega (arith, c.requires))) refl refl l-hello (omega (arith, c.requires)) c.put.ensures.exact in
    let two = laid_more 331 8 c.eight-heard.result (bytes8 kept.heard) c.put-2.new.d one refl c.eight-heard.ensures.exact (length_eight kept.heard) (omega (arith, c.requires)) c.put-2.ensures.exact in
    let three = laid_more 339 84 kept.reply kept.reply c.put-3.new.d two refl refl l-reply (omega (arith, c.requires)) c.put-3.ensures.exact in
    let four = laid_more 423 8 c.eight-size.result (bytes8 kept.size) c.put-4.new.d three refl c.eight-size.ensures.exact (length_eight kept.size) (omega (arith, c.requires)) c.put-4.ensures.exact in
    let n-heard : kept.heard < 18446744073709551616 = search (rules, c.well_formed.1.0) in
    let n-size : kept.size < 18446744073709551616 = search (rules, c.well_formed.1.0) in
    record { d_after = four.bytes; kept_len = four.count; hello_len = (l-hello, (n-heard, (l-reply, n-size))) }
