-- What an answer tells.
use Rattle.std.specs.Prelude.{Result}
use Rattle.calls.specs.declared.fault.Fault.{Fault}
use Rattle.calls.specs.declared.reply.Reply.{Reply}
use Rattle.script.specs.Answers.{refusal_of, first_of, second_of}
use Rattle.station.specs.declared.answer.Answer.{Answer}

-- the reply to a request's call, or what is wrong: with the request, or the board's refusal
abbrev pub answer_of : Result Reply Fault → Answer
answer_of outcome = record { refusal = refusal_of outcome; first = first_of outcome; second = second_of outcome }
