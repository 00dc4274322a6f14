-- `message::hello::read` meets its contract: each return is a stage of `walk_of`, behind the fields that are there. Assumes
-- nothing.
use native.Mathlib.Omega.{arith}
use Rattle.std.proofs.Common.{sym}
use Rattle.std.proofs.lemmas.Result.{err_from_is_err_and}
use Rattle.message.proofs.Hellos.{no_hello, over_size, walked, missing, there, whole, left_over}
use Rattle.message.proofs.hello.read.Goals as goal

pub returns-then-not-fills_with : goal.returns-then-not-fills_with
returns-then-not-fills_with c = no_hello c.args.m.now (sym c.if-not-fills_with.ensures)

pub returns-then-m-gt-SIZE_MOST : goal.returns-then-m-gt-SIZE_MOST
returns-then-m-gt-SIZE_MOST c = over_size c.args.m.now (sym c.if-not-fills_with.ensures) c.if-m-gt-SIZE_MOST.true

pub returns-in_err-version : goal.returns-in_err-version
returns-in_err-version c =
    let p = err_from_is_err_and c.from_residual.result c.from_residual.ensures.1 in
    rw (p.1, p.2)
    (walked c.args.m.now _ (sym c.if-not-fills_with.ensures) c.if-m-gt-SIZE_MOST.false
    (missing _ _ _ _ c.field_end.ensures.value _ c.in_err-version.ensures.value))

pub returns-in_err-random : goal.returns-in_err-random
returns-in_err-random c =
    let p = err_from_is_err_and c.from_residual-in_err-random.result c.from_residual-in_err-random.ensures.1 in
    rw (p.1, p.2)
    (walked c.args.m.now _ (sym c.if-not-fills_with.ensures) c.if-m-gt-SIZE_MOST.false
    (there _ _ _ _ c.field_end.ensures.value _ _ c.in_ok-version.ensures.value
    (missing _ _ _ _ c.field_end-2.ensures.value _ c.in_err-random.ensures.value)))

pub returns-in_err-session : goal.returns-in_err-session
returns-in_err-session c =
    let p = err_from_is_err_and c.from_residual-in_err-session.result c.from_residual-in_err-session.ensures.1 in
    rw (p.1, p.2)
    (walked c.args.m.now _ (sym c.if-not-fills_with.ensures) c.if-m-gt-SIZE_MOST.false
    (there _ _ _ _ c.field_end.ensures.value _ _ c.in_ok-version.ensures.value
    (there _ _ _ _ c.field_end-2.ensures.value _ _ c.in_ok-random.ensures.value
    (missing _ _ _ _ c.short_end.ensures.value _ c.in_err-session.ensures.value))))

pub returns-in_err-client : goal.returns-in_err-client
returns-in_err-client c =
    let p = err_from_is_err_and c.from_residual-in_err-client.result c.from_residual-in_err-client.ensures.1 in
    rw (p.1, p.2)
    (walked c.args.m.now _ (sym c.if-not-fills_with.ensures) c.if-m-gt-SIZE_MOST.false
    (there _ _ _ _ c.field_end.ensures.value _ _ c.in_ok-version.ensures.value
    (there _ _ _ _ c.field_end-2.ensures.value _ _ c.in_ok-random.ensures.value
    (there _ _ _ _ c.short_end.ensures.value _ _ c.in_ok-session.ensures.value
    (missing _ _ _ _ c.keys_end.ensures.value _ c.in_err-client.ensures.value)))))

pub returns-in_err-trusted : goal.returns-in_err-trusted
returns-in_err-trusted c =
    let p = err_from_is_err_and c.from_residual-in_err-trusted.result c.from_residual-in_err-trusted.ensures.1 in
    rw (p.1, p.2)
    (walked c.args.m.now _ (sym c.if-not-fills_with.ensures) c.if-m-gt-SIZE_MOST.false
    (there _ _ _ _ c.field_end.ensures.value _ _ c.in_ok-version.ensures.value
    (there _ _ _ _ c.field_end-2.ensures.value _ _ c.in_ok-random.ensures.value
    (there _ _ _ _ c.short_end.ensures.value _ _ c.in_ok-session.ensures.value
    (there _ _ _ _ c.keys_end.ensures.value _ _ c.in_ok-client.ensures.value
    (missing _ _ _ _ c.keys_end-2.ensures.value _ c.in_err-trusted.ensures.value))))))

pub returns-in_err-suites : goal.returns-in_err-suites
returns-in_err-suites c =
    let p = err_from_is_err_and c.from_residual-in_err-suites.result c.from_residual-in_err-suites.ensures.1 in
    rw (p.1, p.2)
    (walked c.args.m.now _ (sym c.if-not-fills_with.ensures) c.if-m-gt-SIZE_MOST.false
    (there _ _ _ _ c.field_end.ensures.value _ _ c.in_ok-version.ensures.value
    (there _ _ _ _ c.field_end-2.ensures.value _ _ c.in_ok-random.ensures.value
    (there _ _ _ _ c.short_end.ensures.value _ _ c.in_ok-session.ensures.value
    (there _ _ _ _ c.keys_end.ensures.value _ _ c.in_ok-client.ensures.value
    (there _ _ _ _ c.keys_end-2.ensures.value _ _ c.in_ok-trusted.ensures.value
    (missing _ _ _ _ c.suites_end.ensures.value _ c.in_err-suites.ensures.value)))))))

pub returns-in_err-methods : goal.returns-in_err-methods
returns-in_err-methods c =
    let p = err_from_is_err_and c.from_residual-in_err-methods.result c.from_residual-in_err-methods.ensures.1 in
    rw (p.1, p.2)
    (walked c.args.m.now _ (sym c.if-not-fills_with.ensures) c.if-m-gt-SIZE_MOST.false
    (there _ _ _ _ c.field_end.ensures.value _ _ c.in_ok-version.ensures.value
    (there _ _ _ _ c.field_end-2.ensures.value _ _ c.in_ok-random.ensures.value
    (there _ _ _ _ c.short_end.ensures.value _ _ c.in_ok-session.ensures.value
    (there _ _ _ _ c.keys_end.ensures.value _ _ c.in_ok-client.ensures.value
    (there _ _ _ _ c.keys_end-2.ensures.value _ _ c.in_ok-trusted.ensures.value
    (there _ _ _ _ c.suites_end.ensures.value _ _ c.in_ok-suites.ensures.value
    (missing _ _ _ _ c.short_end-2.ensures.value _ c.in_err-methods.ensures.value))))))))

pub returns-in_err-numbering : goal.returns-in_err-numbering
returns-in_err-numbering c =
    let p = err_from_is_err_and c.from_residual-in_err-numbering.result c.from_residual-in_err-numbering.ensures.1 in
    rw (p.1, p.2)
    (walked c.args.m.now _ (sym c.if-not-fills_with.ensures) c.if-m-gt-SIZE_MOST.false
    (there _ _ _ _ c.field_end.ensures.value _ _ c.in_ok-version.ensures.value
    (there _ _ _ _ c.field_end-2.ensures.value _ _ c.in_ok-random.ensures.value
    (there _ _ _ _ c.short_end.ensures.value _ _ c.in_ok-session.ensures.value
    (there _ _ _ _ c.keys_end.ensures.value _ _ c.in_ok-client.ensures.value
    (there _ _ _ _ c.keys_end-2.ensures.value _ _ c.in_ok-trusted.ensures.value
    (there _ _ _ _ c.suites_end.ensures.value _ _ c.in_ok-suites.ensures.value
    (there _ _ _ _ c.short_end-2.ensures.value _ _ c.in_ok-methods.ensures.value
    (missing _ _ _ _ c.field_end-3.ensures.value _ c.in_err-numbering.ensures.value)))))))))

pub returns-in_err-refresh : goal.returns-in_err-refresh
returns-in_err-refresh c =
    let p = err_from_is_err_and c.from_residual-in_err-refresh.result c.from_residual-in_err-refresh.ensures.1 in
    rw (p.1, p.2)
    (walked c.args.m.now _ (sym c.if-not-fills_with.ensures) c.if-m-gt-SIZE_MOST.false
    (there _ _ _ _ c.field_end.ensures.value _ _ c.in_ok-version.ensures.value
    (there _ _ _ _ c.field_end-2.ensures.value _ _ c.in_ok-random.ensures.value
    (there _ _ _ _ c.short_end.ensures.value _ _ c.in_ok-session.ensures.value
    (there _ _ _ _ c.keys_end.ensures.value _ _ c.in_ok-client.ensures.value
    (there _ _ _ _ c.keys_end-2.ensures.value _ _ c.in_ok-trusted.ensures.value
    (there _ _ _ _ c.suites_end.ensures.value _ _ c.in_ok-suites.ensures.value
    (there _ _ _ _ c.short_end-2.ensures.value _ _ c.in_ok-methods.ensures.value
    (there _ _ _ _ c.field_end-3.ensures.value _ _ c.in_ok-numbering.ensures.value
    (missing _ _ _ _ c.field_end-4.ensures.value _ c.in_err-refresh.ensures.value))))))))))

pub returns-then-refresh-m : goal.returns-then-refresh-m
returns-then-refresh-m c =
    walked c.args.m.now _ (sym c.if-not-fills_with.ensures) c.if-m-gt-SIZE_MOST.false
    (there _ _ _ _ c.field_end.ensures.value _ _ c.in_ok-version.ensures.value
    (there _ _ _ _ c.field_end-2.ensures.value _ _ c.in_ok-random.ensures.value
    (there _ _ _ _ c.short_end.ensures.value _ _ c.in_ok-session.ensures.value
    (there _ _ _ _ c.keys_end.ensures.value _ _ c.in_ok-client.ensures.value
    (there _ _ _ _ c.keys_end-2.ensures.value _ _ c.in_ok-trusted.ensures.value
    (there _ _ _ _ c.suites_end.ensures.value _ _ c.in_ok-suites.ensures.value
    (there _ _ _ _ c.short_end-2.ensures.value _ _ c.in_ok-methods.ensures.value
    (there _ _ _ _ c.field_end-3.ensures.value _ _ c.in_ok-numbering.ensures.value
    (there _ _ _ _ c.field_end-4.ensures.value _ _ c.in_ok-refresh.ensures.value
    (left_over _ _ _ c.if-refresh-m.true))))))))))

pub returns : goal.returns
returns c =
    let b = rw c.in_ok-refresh.ensures.ok_part at c.field_end-4.ensures.within in
    rw (c.new.ensures, c.new-2.ensures, c.new-3.ensures, c.new-4.ensures, c.new-5.ensures, c.new-6.ensures, c.new-7.ensures, c.new-8.ensures, c.new-9.ensures)
    (walked c.args.m.now _ (sym c.if-not-fills_with.ensures) c.if-m-gt-SIZE_MOST.false
    (there _ _ _ _ c.field_end.ensures.value _ _ c.in_ok-version.ensures.value
    (there _ _ _ _ c.field_end-2.ensures.value _ _ c.in_ok-random.ensures.value
    (there _ _ _ _ c.short_end.ensures.value _ _ c.in_ok-session.ensures.value
    (there _ _ _ _ c.keys_end.ensures.value _ _ c.in_ok-client.ensures.value
    (there _ _ _ _ c.keys_end-2.ensures.value _ _ c.in_ok-trusted.ensures.value
    (there _ _ _ _ c.suites_end.ensures.value _ _ c.in_ok-suites.ensures.value
    (there _ _ _ _ c.short_end-2.ensures.value _ _ c.in_ok-methods.ensures.value
    (there _ _ _ _ c.field_end-3.ensures.value _ _ c.in_ok-numbering.ensures.value
    (there _ _ _ _ c.field_end-4.ensures.value _ _ c.in_ok-refresh.ensures.value
    (whole _ _ _ (omega (arith, b, c.if-refresh-m.false)))))))))))))
