use Rattle.std.proofs.Common.{◌≡◌, ◌-◌, length, take, drop, sym, ◌∙◌, arith}
use Rattle.std.proofs.lemmas.List.{take_all, length-drop}
use Rattle.raw_events.proofs.BothEnds.{same_ends, same_more}
use Rattle.raw_events.proofs.same.is_same.Goals as goal

pub words-preserved : goal.words-preserved
words-preserved c = record {
  place = omega (arith, c.words-test.true);
  front = same_more c.words.at c.args.a.now c.args.b.now c.words.invariant.front (c.same_word.ensures c.if-not-same_word.false);
}

pub returns : goal.returns
returns c = λ same.
    let last = length c.args.a.now - 8 in
    let a_end : take 8 (drop last c.args.a.now) ≡ drop last c.args.a.now = take_all 8 (drop last c.args.a.now) (omega (arith, length-drop last c.args.a.now)) in
    let b_end : take 8 (drop last c.args.b.now) ≡ drop last c.args.b.now = take_all 8 (drop last c.args.b.now) (omega (arith, length-drop last c.args.b.now)) in
    same_ends c.words.at last c.args.a.now c.args.b.now (omega arith) c.words.invariant.front (sym a_end ∙ c.same_word-2.ensures same ∙ b_end)
