-- `reply::flown`: each record in a room of its own, then joined.
use mathlib.Core.Path.{◌∙◌}
use Rattle.connection.proofs.Replying.{flown_by}
use Rattle.connection.proofs.reply.flown.Goals as goal

pub joined-requires : goal.joined-requires
joined-requires c = let args = c.args in
    let f = flown_by args.secret args.server args.client args.mac args.hello args.ours _ _ _ _ _ c.requires.0 c.requires.1 c.change-one.ensures c.derived-key.ensures c.write_clear.ensures.bytes c.write_clear-2.ensures.bytes c.write_protected.ensures.bytes in
    (f.first_size, (f.second_size, f.third_size))

pub returns : goal.returns
returns c = let args = c.args in
    let f = flown_by args.secret args.server args.client args.mac args.hello args.ours _ _ _ _ _ c.requires.0 c.requires.1 c.change-one.ensures c.derived-key.ensures c.write_clear.ensures.bytes c.write_clear-2.ensures.bytes c.write_protected.ensures.bytes in
    c.joined.ensures ∙ f.joined_is
