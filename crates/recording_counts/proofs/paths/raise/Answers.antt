-- One place further: its number rises where it has the path.
use Rattle.std.specs.Prelude.{◌≡◌, ◌<◌, ◌||◌, ◌&&◌, nat_eq, ℕ, List, [], length, map, get_or, if◌then◌else◌}
use Rattle.std.specs.Str.{bytes_eq}
use Rattle.std.proofs.Common.{sym, ◌∙◌, ap, arith, Vec, Global}
use Rattle.std.proofs.lemmas.List.{get_or-map, length-map}
use Rattle.recording_counts.specs.Counted.{risen}
use Rattle.recording_counts.proofs.Raised.{done_more, left_more, found_more}
use Rattle.recording_counts.proofs.paths.raise.Goals as goal

pub loop-i-preserved : goal.loop-i-preserved
loop-i-preserved c =
    let paths : List (List ℕ) = map (λ (p : Vec ℕ Global). p.items) c.args.paths.now in
    let i : ℕ = c.loop-i.i in
    let within : i < length paths = omega (arith, c.loop-i-test.true, length-map c.args.paths.now (λ (p : Vec ℕ Global). p.items)) in
    let here : c.as_slice.result.now ≡ get_or paths i [] =
    c.as_slice.ensures.value ∙ ap (λ (p : Vec ℕ Global). p.items) c.index-paths-i.is
    ∙ sym (get_or-map (λ (p : Vec ℕ Global). p.items) c.args.paths.now i c.index-paths-i.result [] (omega (arith, c.loop-i-test.true))) in
    let same : c.eq-same.result ≡ bytes_eq c.args.path.now (get_or paths i []) = c.eq-same.ensures ∙ ap (λ (xs : List ℕ). bytes_eq c.args.path.now xs) here in
    let inv = c.loop-i.invariant in
    record {
      len = c.raise_if.ensures.len;
      found = ap (λ t. c.loop-i.found || t) same ∙ ap (λ t. t || bytes_eq c.args.path.now (get_or paths i [])) inv.found ∙ found_more paths c.args.path.now i within;
      done = done_more paths c.args.path.now c.args.counts.now c.loop-i.counts c.raise_if.new.counts i (λ j. c.raise_if.ensures.raised j ∙ ap (λ t. if nat_eq j i && t then risen (get_or c.loop-i.counts j 0) else get_or c.loop-i.counts j 0) same) inv.done inv.left;
      left = left_more paths c.args.path.now c.args.counts.now c.loop-i.counts c.raise_if.new.counts i (λ j. c.raise_if.ensures.raised j ∙ ap (λ t. if nat_eq j i && t then risen (get_or c.loop-i.counts j 0) else get_or c.loop-i.counts j 0) same) inv.done inv.left;
    }
