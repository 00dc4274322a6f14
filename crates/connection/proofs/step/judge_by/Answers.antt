-- `step::judge_by`: the answer, and the handshake after the step.
use Rattle.connection.proofs.step.judge_by.Goals as goal

pub returns : goal.returns
returns c = λ i. record { answer = c.args.step.answer; handshake = c.led.ensures i }
