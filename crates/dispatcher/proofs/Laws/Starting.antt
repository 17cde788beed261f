-- What is kept before the first call stands for no call.
use Rattle.std.proofs.Common.{[], refl, sym, ap, ◌∙◌, subst, arith}
use Rattle.std.proofs.Math.Path.{fun_ext}
use Rattle.std.proofs.lemmas.Bool.{true≢false}
use Rattle.window_snapshot.specs.Mask.{mask_has}
use Rattle.window_snapshot.proofs.Masks.{mask_has-zero}
use Rattle.route_split.proofs.FollowingLaws.{start_law}
use Rattle.dispatcher.specs.DispatchTables.Delivery.{NotedIs}
use Rattle.dispatcher.proofs.DispatchTables.Lawfuls.{lawful_effects}
use Rattle.dispatcher.specs.KeyTables.Focused.{FocusIs}
use Rattle.dispatcher.proofs.KeyTables.Focusing.{focus_at_first}
use Rattle.dispatcher.specs.Laws.{KnowsFirst}

pub knows_first : KnowsFirst
knows_first ds k f =
    record {
      lawful = lawful_effects ds [] tt;
      rise = tt;
      knows =
          record {
            queue = record { clock_is = f.clock_is; place_is = f.place_is; waiting_is = f.waiting_is; down_is = f.down_is };
            shown = record { windows_are = f.windows_are; origins_are = λ w low high. f.origins_are w };
            touches = start_law k.touches f.touches_are;
            covers = λ w d. sym (f.covers_are w d);
            delivery =
                record {
                  count_is = f.count_is;
                  keeps = λ c from to. absurd (omega (arith, from, to, f.count_is));
                  live_is = ap mask_has f.live_is ∙ fun_ext mask_has-zero;
                  able_is = ap mask_has f.able_is ∙ fun_ext mask_has-zero;
                  noted_is = subst (NotedIs []) (sym f.noted_is) (record { few = omega arith; left_is = refl });
                };
            inputs = λ w lives. absurd (true≢false (sym lives));
            keying = record { focus_is = subst (FocusIs []) (sym f.focus_is) focus_at_first; repeat_is = f.repeat_is };
          };
    }
