-- A Move bypasses the channel of one window.
use Rattle.std.proofs.Common.{◌≡◌, ℕ, ◌+◌, ◌-◌, Bool, true, false, List, [], ◌∷◌, length, get_or, refl, sym, ap, ap₂, ◌∙◌, subst, arith}
use mathlib.Core.Path.{fun_ext}
use Rattle.std.specs.List.{list_any}
use Rattle.std.proofs.lemmas.List.{length-set, get_or-set_other}
use Rattle.bits32.specs.Set.{is_in}
use Rattle.input_types.specs.declared.axis.Pixel.{Pixel}
use Rattle.input_types.specs.declared.message.Body.{Body}
use Rattle.input_types.specs.declared.message.Body.TheVariants.{Motion as MotionBody}
use Rattle.input_types.specs.declared.motion.Motion.{Motion}
use Rattle.input_types.specs.declared.motion.MotionAction.TheVariants.{Move}
use Rattle.input_types.specs.declared.pointer.Pointer.{Pointer}
use Rattle.routing_rules.specs.Cover.{flags_of, with_flags}
use Rattle.routing_rules.specs.Outgoing.{listing, plain}
use Rattle.window_snapshot.specs.Origins.{corner}
use Rattle.touch_state.specs.Touches.{Touches}
use Rattle.route_split.specs.Tables.{holds_at}
use Rattle.dispatcher.specs.InputChannel.Moves.{move_of}
use Rattle.dispatcher.specs.InputChannel.State.{ChannelState, enqueued, each_released}
use Rattle.dispatcher.specs.WindowCovers.Covers.{CoverTable, cover_in}
use Rattle.dispatcher.specs.DispatchChannels.Table.{Table, IsOpened, channel_in, channel_of, input_of, unsent}
use Rattle.dispatcher.specs.DispatchChannels.FromOrigin.{body_from}
use Rattle.dispatcher.specs.DispatchChannels.Changes.{SendsPast}
use Rattle.dispatcher.proofs.DispatchChannels.Wholes.{channel_set_same, channel_set_other}
use Rattle.dispatcher.specs.DispatchRound.Bodies.{TracksAll, told}
use Rattle.dispatcher.specs.DispatchRound.Steady.{moved}
use Rattle.dispatcher.specs.DispatchRound.Outgoing.{with_bodies}
use Rattle.dispatcher.specs.DispatchRound.Past.{PassesOne}
use Rattle.dispatcher.proofs.DispatchRound.MoveLaws.{some_moves, none_moves}
use Rattle.dispatcher.proofs.DispatchRound.Telling.{no_flags, told_one}

-- the motion lists a pointer that a window holds
abbrev pub some_held : List Touches → Motion → ℕ → Bool
some_held ts m w = list_any (λ p. holds_at ts w m.device p.id) m.pointers

-- what that one is sent of a Move
pub none_says : (covers : CoverTable) (ts : List Touches) (m : Motion) (w : ℕ) → some_held ts m w ≡ false → moved covers ts m w ≡ []
none_says covers ts m w held = ap (told covers w) (none_moves (holds_at ts w m.device) m.device m.pointers held)

pub some_says : (covers : CoverTable) (ts : List Touches) (m : Motion) (w : ℕ) → some_held ts m w ≡ true
    → moved covers ts m w ≡ told_one covers w (plain m.device Move (listing (holds_at ts w m.device) m.pointers)) ∷ []
some_says covers ts m w held = ap (told covers w) (some_moves (holds_at ts w m.device) m.device m.pointers held)

-- by the ids that are held
pub held_some : (ts : List Touches) (m : Motion) (w held : ℕ) (ps : List Pointer) (b : Bool) → ((i : ℕ) → is_in i held ≡ holds_at ts w m.device i)
    → ps ≡ m.pointers → b ≡ list_any (λ p. is_in p.id held) ps → some_held ts m w ≡ b
held_some ts m w held ps b are same e =
    let ids : (λ i. is_in i held) ≡ holds_at ts w m.device = fun_ext are in
    sym (e ∙ ap₂ (λ (f : ℕ → Bool) (xs : List Pointer). list_any (λ p. f p.id) xs) ids same)

-- what keeps nothing releases nothing
pub released_none : (s : ChannelState) → s.messages ≡ [] → each_released s ≡ s
released_none s none =
    let all : s.gone + length s.messages ≡ s.gone = ap (λ ms. s.gone + length ms) none ∙ omega arith in
    λ i. record s { gone = all i; messages = sym none i }

-- a window that holds none of the pointers is sent nothing
pub passes_none : (ts : List Touches) (m : Motion) (w : ℕ) (t : Table) → some_held ts m w ≡ false → (channel_of t w).messages ≡ []
    → PassesOne ts m w t t
passes_none ts m w t held none =
    let nothing : (covers : CoverTable) → [] ≡ moved covers ts m w = λ covers. sym (none_says covers ts m w held) in
    record {
      changes = λ covers o clock.
          sym (released_none (channel_of t w) none) ∙ ap (λ bs. each_released (with_bodies bs o clock (channel_of t w))) (nothing covers);
      tracks = λ covers. subst (TracksAll (input_of t w) (input_of t w)) (nothing covers) (record { pointers_are = λ d. refl; keys_are = refl });
      spends = record { room = omega arith; track_room = omega arith; keys_are = refl };
      unfinished_is = refl;
      others = λ k low ne. (refl, refl);
      same = record { as_many = refl; live_is = refl; able_is = refl; anrs_are = refl };
    }

-- one that holds some is sent that they move
pub passes_some : (ts : List Touches) (m : Motion) (w : ℕ) (t u : Table) → some_held ts m w ≡ true → IsOpened t w
    → ((flags : ℕ) (o : Pixel) (clock : ℕ)
    → SendsPast w (MotionBody (move_of m.device flags (listing (holds_at ts w m.device) m.pointers))) o clock t u)
    → PassesOne ts m w t u
passes_some ts m w t u held there sends = record {
  changes = λ covers o clock. channel_is covers o clock ∙ ap (λ bs. each_released (with_bodies bs o clock (channel_of t w))) (says covers);
  tracks = λ covers. subst (TracksAll (input_of t w) (input_of u w)) (says covers)
      (record { pointers_are = λ d. h.tracks.pointers_are d; keys_are = h.tracks.keys_are });
  spends = record {
    room = let less : (channel_of u w).spare ≡ (channel_of t w).spare - 1 = ap (λ s. s.spare) any in omega (arith, less);
    track_room = omega (arith, h.tracks.spare_is);
    keys_are = h.tracks.keys_are;
  };
  unfinished_is = ap (λ s. s.unfinished) any;
  others = λ k low ne. (
    ap (λ ss. channel_in ss k) h.channels_are ∙ channel_set_other t.channels w k _ there.0 low ne,
    ap (λ is. get_or is (k - 1) unsent) h.inputs_are
        ∙ get_or-set_other t.inputs (w - 1) (k - 1) _ unsent (λ e. ne (omega (arith, e, there.0, low))),
  );
  same = record {
    as_many = ap length h.channels_are ∙ length-set t.channels (w - 1) _;
    live_is = h.live_is;
    able_is = h.able_is;
    anrs_are = h.anrs_are;
  };
}
  where
    body : ℕ → Body
    body flags = MotionBody (move_of m.device flags (listing (holds_at ts w m.device) m.pointers))

    h : SendsPast w (body 0) corner 0 t u
    h = sends 0 corner 0

    by : (flags : ℕ) (o : Pixel) (clock : ℕ) → channel_of u w ≡ each_released (enqueued (body_from o (body flags)) clock (channel_of t w))
    by flags o clock =
        ap (λ ss. channel_in ss w) (sends flags o clock).channels_are ∙ channel_set_same t.channels w _ there.0 there.1

    any : channel_of u w ≡ each_released (enqueued (body_from corner (body 0)) 0 (channel_of t w))
    any = by 0 corner 0

    flags : CoverTable → ℕ
    flags covers = flags_of (cover_in covers w m.device)

    channel_is : (covers : CoverTable) (o : Pixel) (clock : ℕ)
        → channel_of u w ≡ each_released (with_bodies (body (flags covers) ∷ []) o clock (channel_of t w))
    channel_is covers o clock = by (flags covers) o clock

    says : (covers : CoverTable) → body (flags covers) ∷ [] ≡ moved covers ts m w
    says covers =
        ap (λ f. MotionBody (with_flags f (plain m.device Move (listing (holds_at ts w m.device) m.pointers))) ∷ []) (no_flags (cover_in covers w m.device))
        ∙ sym (some_says covers ts m w held)
