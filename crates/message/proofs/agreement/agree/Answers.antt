-- `agreement::agree`: the identifier of what was read ends within 29 bytes.
use Rattle.std.proofs.Common.{sym, ◌∙◌}
use Rattle.message.proofs.ServerHellos.{end_most}
use Rattle.message.proofs.agreement.agree.Goals as goal

pub judge-requires : goal.judge-requires
judge-requires c = end_most c.args.m.now _ (sym c.read.ensures ∙ c.in_ok-end.ensures.ok_part)
