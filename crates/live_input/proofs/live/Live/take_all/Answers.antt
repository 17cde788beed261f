-- One event after another is taken.
use Rattle.std.proofs.Common.{pos, drop, map, take, suc, slice_index_or, refl, sym, ap, ◌∙◌, subst}
use Rattle.live_input.specs.declared.strokes.Stroke.{Stroke}
use Rattle.live_input.specs.Fingers.{Takes, TakesPart, behind}
use Rattle.live_input.specs.Strokes.{said}
use Rattle.live_input.specs.State.{LiveState}
use Rattle.live_input.proofs.Panels.{split_at, take_more, take_whole, takes_more, takes_none}
use Rattle.live_input.proofs.Results.{err_always}
use Rattle.live_input.proofs.live.Live.take_all.Goals as goal

pub loop-stroke-init : goal.loop-stroke-init
loop-stroke-init c = record { takes = λ plan past st. takes_none plan past c.args.device c.args.self.now st; others = λ d le ne. refl; rest = refl }

pub loop-stroke-preserved : goal.loop-stroke-preserved
loop-stroke-preserved c =
    record {
      takes = λ plan past st.
          let d = c.args.device in
          let n = c.loop-stroke.stroke-index in
          let ks = c.args.strokes.now in
          let so_far = map (said d c.args.now) (take n ks) in
          let t = c.loop-stroke.invariant.takes plan past st in
          subst (λ xs. Takes plan past xs d c.args.self.now c.take.new.self) (sym (take_more d c.args.now ks n _ c.loop-stroke-test.true))
          (takes_more plan past so_far _ d c.args.self.now c.loop-stroke.self c.take.new.self t (c.in_ok-take.ensures.ok plan (behind past so_far) t.stands));
      others = λ d le ne. c.take.ensures.others d le ne ∙ c.loop-stroke.invariant.others d le ne;
      rest =
          c.take.ensures.rest
          ∙ ap (λ (s : LiveState). record s { devices = c.take.new.self.devices; pending = c.take.new.self.pending }) c.loop-stroke.invariant.rest;
    }

pub returns-in_err-take-clause-err : goal.returns-in_err-take-clause-err
returns-in_err-take-clause-err c = λ plan past st.
    let d = c.args.device in
    let n = c.loop-stroke.stroke-index in
    let ks = c.args.strokes.now in
    let none : Stroke = record { kind = 0; code = 0; value = pos 0 } in
    let part : TakesPart plan past (map (said d c.args.now) ks) d c.args.self.now c.take.new.self =
    record {
      first = map (said d c.args.now) (take n ks);
      next = said d c.args.now (slice_index_or ks n none);
      later = map (said d c.args.now) (drop (suc n) ks);
      events_are = split_at d c.args.now ks n none c.loop-stroke-test.true;
      takes =
          subst (λ s. Takes plan past (map (said d c.args.now) (take n ks)) d c.args.self.now s) (sym c.in_err-take.ensures.err)
          (c.loop-stroke.invariant.takes plan past st);
    } in
    err_always c.from_residual.result (TakesPart plan past (map (said d c.args.now) ks) d c.args.self.now c.take.new.self) part

pub returns-clause-ok : goal.returns-clause-ok
returns-clause-ok c = λ plan past st.
    subst (λ ks. Takes plan past (map (said c.args.device c.args.now) ks) c.args.device c.args.self.now c.loop-stroke.self)
    (take_whole c.args.strokes.now c.loop-stroke.stroke-index c.loop-stroke-test.false) (c.loop-stroke.invariant.takes plan past st)

pub returns-in_err-take-clause-others : goal.returns-in_err-take-clause-others
returns-in_err-take-clause-others c = λ d le ne. c.take.ensures.others d le ne ∙ c.loop-stroke.invariant.others d le ne
