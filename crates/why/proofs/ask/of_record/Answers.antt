-- `ask::of_record`: the reason, with the state, the record's kind and its place.
use mathlib.Core.Path.{◌∙◌, ap}
use Rattle.why.specs.Why.{is_hello}
use Rattle.why.proofs.ask.of_record.Goals as goal

pub returns : goal.returns
returns c = let p = c.args.p in
    let hello = (c.is_hello.ensures ∙ ap is_hello c.kind_in.ensures) in
    λ i. record {
      reason = c.of_answer-reason.ensures i;
      state = p.connection.handshake.state;
      started = p.connection.started.state;
      content = p.found.content;
      protected = p.found.protected;
      hello = hello i;
      place = c.args.index;
      sent = p.connection.sent;
    }
