-- Each display is compared.
use Rattle.std.proofs.Common.{refl, sym, ◌∙◌}
use Rattle.live_input.proofs.Eased.{placed_all}
use Rattle.live_input.proofs.limit.Limited.are_asked.Goals as goal

pub returns-then-not-is_asked : goal.returns-then-not-is_asked
returns-then-not-is_asked c = λ ds es h.
    placed_all c.args.self.now.wanted es _ _ _ _ _ 1 2 3 c.display.ensures refl refl refl (sym c.if-not-is_asked.true ∙ c.is_asked.ensures ds es h) refl refl
    refl

pub returns-then-not-is_asked-2 : goal.returns-then-not-is_asked-2
returns-then-not-is_asked-2 c = λ ds es h.
    placed_all c.args.self.now.wanted es _ _ _ _ _ _ 2 3 c.display.ensures c.display-2.ensures refl refl
    (sym c.if-not-is_asked.false ∙ c.is_asked.ensures ds es h) (sym c.if-not-is_asked-2.true ∙ c.is_asked-2.ensures ds es h) refl refl

pub returns-then-not-is_asked-3 : goal.returns-then-not-is_asked-3
returns-then-not-is_asked-3 c = λ ds es h.
    placed_all c.args.self.now.wanted es _ _ _ _ _ _ _ 3 c.display.ensures c.display-2.ensures c.display-3.ensures refl
    (sym c.if-not-is_asked.false ∙ c.is_asked.ensures ds es h) (sym c.if-not-is_asked-2.false ∙ c.is_asked-2.ensures ds es h)
    (sym c.if-not-is_asked-3.true ∙ c.is_asked-3.ensures ds es h) refl

pub returns : goal.returns
returns c = λ ds es h.
    placed_all c.args.self.now.wanted es _ _ _ _ _ _ _ _ c.display.ensures c.display-2.ensures c.display-3.ensures c.display-4.ensures
    (sym c.if-not-is_asked.false ∙ c.is_asked.ensures ds es h) (sym c.if-not-is_asked-2.false ∙ c.is_asked-2.ensures ds es h)
    (sym c.if-not-is_asked-3.false ∙ c.is_asked-3.ensures ds es h) (c.is_asked-4.ensures ds es h)
