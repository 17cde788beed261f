use Rattle.std.proofs.Common.{◌≡◌, ◌++◌, sym, ap, ◌∙◌}
use Rattle.std.proofs.lemmas.List.{take-append-drop}
use Rattle.raw_events.proofs.front.front_of.Goals as goal

pub front_with-requires-clause-whole : goal.front_with-requires-clause-whole
front_with-requires-clause-whole c =
    let behind : c.split_at-3.result.0.now ++ c.split_at-3.result.1.now ≡ c.split_at-2.result.1.now = rw (c.split_at-3.ensures.front, c.split_at-3.ensures.back) (take-append-drop 7 c.split_at-2.result.1.now) in
    let all : c.split_at-2.result.0.now ++ c.split_at-2.result.1.now ≡ c.split_at.result.0.now = rw (c.split_at-2.ensures.front, c.split_at-2.ensures.back) (take-append-drop _ _) in
    sym (ap (λ rest. c.split_at-2.result.0.now ++ rest) behind ∙ all)
