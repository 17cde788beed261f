-- A run over files and an output that had no fault ends with the program's answer, or memory ran out.
use Rattle.std.proofs.Common.{◌≡◌, ◌∙◌, ◌<◌, ℕ, zero, suc, true, false, List, Ok, Err, refl, sym, inl, inr, arith}
use Rattle.std.proofs.lemmas.Bool.{ne_eqb}
use Rattle.std.specs.Prelude.{◌⊎◌}
use Rattle.command_files.specs.Judged.{Answer}
use Rattle.replay_engine.specs.Laws.{RunsComplete}
use Rattle.replay_engine.specs.Outcome.{Asked, ComesTo, Completes, Ends, HasStatus, RefusedBy, SinkEnds, is_status}

by_refusal : (q : Asked) (status : ℕ) (said : List ℕ → Type 0) → RefusedBy q status said → ((a : Answer) × ComesTo q a × HasStatus a status) ⊎ (status ≡ 6)
by_refusal q status said (r, is, comes, line) = inl (Err r, comes, sym is)

-- there is no status above 7
no_status : (n : ℕ) → 7 < n → is_status n ≡ false
no_status n big =
    rw (
      ne_eqb n 0 (λ e. absurd (omega (arith, e, big))),
      ne_eqb n 1 (λ e. absurd (omega (arith, e, big))),
      ne_eqb n 2 (λ e. absurd (omega (arith, e, big))),
      ne_eqb n 3 (λ e. absurd (omega (arith, e, big))),
      ne_eqb n 4 (λ e. absurd (omega (arith, e, big))),
      ne_eqb n 5 (λ e. absurd (omega (arith, e, big))),
      ne_eqb n 6 (λ e. absurd (omega (arith, e, big))),
      ne_eqb n 7 (λ e. absurd (omega (arith, e, big))),
    ) refl

pub runs_complete : RunsComplete
runs_complete q out err zero e = λ read wrote. let (text, comes, whole) = e.writes.whole refl in inl (Ok text, comes, refl)
runs_complete q out err (suc zero) e = λ read wrote. by_refusal q 1 _ (e.tells.judged refl)
runs_complete q out err (suc (suc zero)) e = λ read wrote. by_refusal q 2 _ (e.tells.usage_told refl)
runs_complete q out err (suc (suc (suc zero))) e = λ read wrote. by_refusal q 3 _ (e.tells.refused refl)
runs_complete q out err (suc (suc (suc (suc zero)))) e = λ read wrote. absurd (read (e.read refl))
runs_complete q out err (suc (suc (suc (suc (suc zero))))) e = λ read wrote. absurd (wrote (e.write refl))
runs_complete q out err (suc (suc (suc (suc (suc (suc zero)))))) e = λ read wrote. inr refl
runs_complete q out err (suc (suc (suc (suc (suc (suc (suc zero))))))) e = λ read wrote. by_refusal q 7 _ (e.tells.too_much refl)
runs_complete q out err (suc (suc (suc (suc (suc (suc (suc (suc n)))))))) e = λ read wrote. absurd (let never : false ≡ true = sym (no_status (suc (suc (suc (suc (suc (suc (suc (suc n)))))))) (omega arith)) ∙ e.is in cc never)
