-- Steps whose causes are written as they are made.
use Rattle.std.proofs.Common.{◌≡◌, ℕ, max, true, false, List, ◌∷◌, ◌++◌, flat_map, Result, Ok, Err, IfOk, OnOk, refl, sym, ap, ap₂, ◌∙◌, append-nil, subst}
use Rattle.dispatch_calls.specs.Moments.{moment_of}
use Rattle.dispatch_calls.specs.declared.call.Call.{Call}
use Rattle.dispatch_calls.specs.declared.reply.Reply.{Reply}
use Rattle.dispatch_history.specs.Effect.{Effect, past_of}
use Rattle.dispatch_history.specs.Effects.{effect_of, step}
use Rattle.dispatch_history.specs.History.{clock}
use Rattle.dispatch_history.specs.Queue.{args_of, inbound}
use Rattle.dispatch_history.specs.Reply.{reply_to}
use Rattle.dispatcher.specs.DispatchTables.Lawful.{Lawful}
use Rattle.dispatcher.proofs.DispatchTables.Lawfuls.{lawful_last}
use Rattle.dispatcher.specs.Dispatching.{Dispatching, IsAfter}
use Rattle.why_text.specs.Laws.{is_silent, may_move_focus}
use Rattle.why_text.specs.Lines.{call_words}
use Rattle.why_text.specs.Text.{focus_words, line}
use Rattle.why_text.proofs.NoOpLaws.{silent_law}
use Rattle.why_lines.specs.Growing.{with_lines}
use Rattle.why_lines.specs.Explaining.{ExplainsAfter}
use Rattle.why_lines.proofs.Growing.{more_lines}
use Rattle.why_lines.proofs.Still.{moved_law, still_law}

-- what follows where there was memory
pub on_ok : {T E : Type 0} (r : Result T E) (P Q : Type 0) → OnOk r P → (P → Q) → OnOk r Q
on_ok (Ok x) P Q p f = f p
on_ok (Err x) P Q p f = tt

pub from_if : {T E : Type 0} (r : Result T E) (P Q : Type 0) → IfOk r (λ x. P) → (P → Q) → OnOk r Q
from_if (Ok x) P Q p f = f p
from_if (Err x) P Q p f = tt

-- the lines of a call that is answered so
abbrev pub answered_words : List ℕ → Call → List Effect → Reply → List (List ℕ)
answered_words ds call es answer = call_words ds call answer (effect_of ds call answer (args_of call answer (inbound (past_of es))) es) es

-- a step is lawful where what is kept stands for it
pub stands_lawful : (ds : List ℕ) (es : List Effect) (d : Dispatching) → IsAfter es d → d.displays ≡ ds → Lawful ds es
stands_lawful ds es d stands same = subst (λ x. Lawful x es) same stands.lawful

-- a step that moves no focus is written if its lines are
pub sends : (ds : List ℕ) (call : Call) (es : List Effect) (answer : Reply) (d : Dispatching) (t : ℕ) (words : List (List ℕ)) (old new : List ℕ)
    → IsAfter (step ds call answer es) d
    → d.displays ≡ ds
    → t ≡ max (moment_of call) (clock (past_of es))
    → may_move_focus call answer ≡ false
    → new ≡ with_lines t words old
    → (answer ≡ reply_to es call → words ≡ answered_words ds call es answer)
    → ExplainsAfter call es ds old new d
sends ds call es answer d t words old new stands same at still grown are =
    let l : Lawful ds (step ds call answer es) = stands_lawful ds (step ds call answer es) d stands same in
    let x = effect_of ds call answer (args_of call answer (inbound (past_of es))) es in
    record {
      answer = answer;
      stands = stands;
      text_is = grown
          ∙ ap₂ (λ n ws. old ++ flat_map (line n) ws) at (are (lawful_last ds call answer es l).0)
          ∙ ap (λ text. old ++ text) (sym (still_law ds call answer es x refl still));
    }

-- a step that may move the focus is written if its lines are, and after them the changes
pub sends_moved : (ds : List ℕ) (call : Call) (es : List Effect) (answer : Reply) (d : Dispatching) (t : ℕ) (words : List (List ℕ)) (old new : List ℕ)
    → IsAfter (step ds call answer es) d
    → d.displays ≡ ds
    → t ≡ max (moment_of call) (clock (past_of es))
    → new ≡ with_lines t (focus_words (past_of es) ((call, answer) ∷ past_of es)) (with_lines t words old)
    → (answer ≡ reply_to es call → words ≡ answered_words ds call es answer)
    → ExplainsAfter call es ds old new d
sends_moved ds call es answer d t words old new stands same at grown are =
    let l : Lawful ds (step ds call answer es) = stands_lawful ds (step ds call answer es) d stands same in
    let x = effect_of ds call answer (args_of call answer (inbound (past_of es))) es in
    let changes = focus_words (past_of es) ((call, answer) ∷ past_of es) in
    record {
      answer = answer;
      stands = stands;
      text_is = grown
          ∙ more_lines t words changes old
          ∙ ap₂ (λ n ws. old ++ flat_map (line n) (ws ++ changes)) at (are (lawful_last ds call answer es l).0)
          ∙ ap (λ text. old ++ text) (sym (moved_law ds call answer es x refl));
    }

-- a silent step writes nothing
pub unsent : (ds : List ℕ) (call : Call) (es : List Effect) (text : List ℕ) (answer : Reply) (d : Dispatching) → IsAfter (step ds call answer es) d
    → is_silent call answer ≡ true → ExplainsAfter call es ds text text d
unsent ds call es text answer d stands silent =
    let x = effect_of ds call answer (args_of call answer (inbound (past_of es))) es in
    record {
      answer = answer;
      stands = stands;
      text_is = sym (ap (λ more. text ++ more) (silent_law ds x es call answer refl silent) ∙ append-nil text);
    }
