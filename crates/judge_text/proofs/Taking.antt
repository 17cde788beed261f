-- What a judge knows behind one line more.
use Rattle.std.specs.Prelude.{OnOk}
use Rattle.std.proofs.Common.{◌≡◌, ℕ, ◌+◌, List, ◌∷◌, ◌++◌, Option, Some, None, Result, Ok, Err, refl, sym, ap, ◌∙◌, subst, arith, append-nil}
use Rattle.std.specs.Option.{option_or}
use Rattle.input_types.specs.declared.message.Message.{Message as Told}
use Rattle.stream_text.specs.declared.stream_line.StreamLine.{StreamLine}
use Rattle.stream_text.specs.declared.stream_line.StreamLine.TheVariants.{Message, End}
use Rattle.judge_text.specs.Judged.{whole_line}
use Rattle.judge_text.specs.Judging.{Known, Knows, Takes, broken_at, down_at}

or_none : {A : Type 0} (o : Option A) → o ≡ option_or o None
or_none None = refl
or_none (Some x) = refl

-- a message was judged
pub message_taken : (past : List Told) (n : ℕ) (m : Told) (line : StreamLine) (old mid seen : Known) → seen ≡ mid → line ≡ Message m → Knows (m ∷ past) mid
    → mid.broken ≡ option_or old.broken (broken_at past n (Message m))
    → (mid.down ≡ old.down) × (mid.sections ≡ old.sections) × (mid.messages ≡ old.messages) × (mid.lines ≡ old.lines)
    → Takes past n line old (record { tables = seen.tables; broken = seen.broken; down = seen.down; sections = seen.sections; messages = seen.messages + 1; lines = seen.lines })
message_taken past n m line old mid seen same is knows broken rest =
    let messages : seen.messages ≡ old.messages = ap (λ (k : Known). k.messages) same ∙ rest.2 in
    let sections : seen.sections ≡ old.sections = ap (λ (k : Known). k.sections) same ∙ rest.1 in
    rw is (record {
      knows = subst (λ (k : Known). Knows (m ∷ past) k) (sym same) knows;
      broken = ap (λ (k : Known). k.broken) same ∙ broken;
      down = λ none. ap (λ (k : Known). k.down) same ∙ rest.0 ∙ or_none old.down;
      sections = omega (arith, sections);
      messages = omega (arith, messages);
      lines = ap (λ (k : Known). k.lines) same ∙ rest.3 ∙ sym (append-nil old.lines);
    })

end_taken : (past : List Told) (n : ℕ) (line : StreamLine) (old mid seen : Known) (id sent received finished : ℕ) (lines : List ℕ) → seen ≡ mid
    → line ≡ End id sent received finished → Knows past old
    → (old.broken ≡ None → mid.down ≡ option_or old.down (down_at past n (End id sent received finished)))
    → (mid.tables ≡ old.tables) × (mid.broken ≡ old.broken) × (mid.sections ≡ old.sections) × (mid.messages ≡ old.messages) × (mid.lines ≡ old.lines)
    → lines ≡ seen.lines ++ whole_line id sent
    → Takes past n line old (record { tables = seen.tables; broken = seen.broken; down = seen.down; sections = seen.sections; messages = seen.messages; lines = lines })
end_taken past n line old mid seen id sent received finished lines same is knows down rest written =
    let tables : seen.tables ≡ old.tables = ap (λ (k : Known). k.tables) same ∙ rest.0 in
    let broken : seen.broken ≡ old.broken = ap (λ (k : Known). k.broken) same ∙ rest.1 in
    let sections : seen.sections ≡ old.sections = ap (λ (k : Known). k.sections) same ∙ rest.2 in
    let messages : seen.messages ≡ old.messages = ap (λ (k : Known). k.messages) same ∙ rest.3 in
    let before : seen.lines ≡ old.lines = ap (λ (k : Known). k.lines) same ∙ rest.4 in
    rw is (record {
      knows = λ none. rw tables (knows (sym broken ∙ none));
      broken = broken ∙ or_none old.broken;
      down = λ none. ap (λ (k : Known). k.down) same ∙ down (sym broken ∙ none);
      sections = omega (arith, sections);
      messages = omega (arith, messages);
      lines = written ∙ ap (λ ls. ls ++ whole_line id sent) before;
    })

-- a section ended, and its line was written
pub ended : {T E : Type 0} (r : Result T E) (past : List Told) (n : ℕ) (line : StreamLine) (old mid seen : Known) (id sent received finished : ℕ) (lines : List ℕ)
    → seen ≡ mid → line ≡ End id sent received finished → Knows past old
    → (old.broken ≡ None → mid.down ≡ option_or old.down (down_at past n (End id sent received finished)))
    → (mid.tables ≡ old.tables) × (mid.broken ≡ old.broken) × (mid.sections ≡ old.sections) × (mid.messages ≡ old.messages) × (mid.lines ≡ old.lines)
    → OnOk r (lines ≡ seen.lines ++ whole_line id sent)
    → OnOk r (Takes past n line old (record { tables = seen.tables; broken = seen.broken; down = seen.down; sections = seen.sections; messages = seen.messages; lines = lines }))
ended (Ok x) past n line old mid seen id sent received finished lines same is knows down rest written =
    end_taken past n line old mid seen id sent received finished lines same is knows down rest written
ended (Err e) past n line old mid seen id sent received finished lines same is knows down rest written = tt
