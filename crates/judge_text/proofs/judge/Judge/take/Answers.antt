use Rattle.judge_text.proofs.Taking.{ended, message_taken}
use Rattle.judge_text.proofs.judge.Judge.take.Goals as goal

pub returns-in_ok-judge-in-Message : goal.returns-in_ok-judge-in-Message
returns-in_ok-judge-in-Message c = λ past knows.
    message_taken past c.args.number c.in-Message.message c.args.line.now c.args.self.now c.judge.new.self _ c.self-in-Message.view_is c.in-Message.is
    (c.in_ok-judge-in-Message.ensures.knows past knows) (c.in_ok-judge-in-Message.ensures.broken past knows) c.in_ok-judge-in-Message.ensures.rest

pub returns-in_ok-look_down-in-End : goal.returns-in_ok-look_down-in-End
returns-in_ok-look_down-in-End c = λ past knows.
    ended c.add_whole.result past c.args.number c.args.line.now c.args.self.now c.look_down.new.self _ c.in-End.id c.in-End.sent c.in-End.received c.in-End.finished _
    c.self-in-End.view_is c.in-End.is knows
    (λ none. c.in_ok-look_down-in-End.ensures.down past knows none c.in-End.id c.in-End.sent c.in-End.received c.in-End.finished)
    c.in_ok-look_down-in-End.ensures.rest c.add_whole.ensures
