-- No message is released, and no ANR.
use Rattle.std.proofs.Common.{◌≡◌, ◌-◌, ℕ, zero, suc, nat_lt, Bool, true, false, cond, List, [], ◌∷◌, ◌++◌, get_or, set, refl, sym, ap, ◌∙◌}
use Rattle.dispatcher.specs.InputChannel.State.{ChannelState, opened_with, received_one, received_uncopied}
use Rattle.dispatcher.specs.DispatchChannels.Table.{Table, channel_of, with_channel, but_for_room}
use Rattle.dispatcher.specs.DispatchChannels.Changes.{OpensChannel, new_channel, finished_at, finished_in, named_in}
use Rattle.dispatcher.specs.Tables.{ReleasesNone}
use Rattle.dispatcher.proofs.Room.Rooms.{channel_bare}
use Rattle.dispatch_history.specs.History.{no_terms}
use Rattle.dispatch_calls.specs.declared.terms.Terms.{Terms}

-- where nothing changes
pub none_gone : (t : Table) → ReleasesNone t t
none_gone t = record { of_channels = λ c low. refl; of_anrs = refl }

pub same_gone : (t u : Table) → u ≡ t → ReleasesNone t u
same_gone t u same = record { of_channels = λ c low. ap (λ x. (channel_of x c).gone) same; of_anrs = ap (λ x. x.anrs.gone) same }

-- where there is other room
pub room_gone : (t u : Table) → but_for_room u ≡ but_for_room t → ReleasesNone t u
room_gone t u same =
    record {
      of_channels = λ c low.
          ap (λ s. s.gone) (sym (channel_bare u c)) ∙ ap (λ x. (channel_of x c).gone) same ∙ ap (λ s. s.gone) (channel_bare t c);
      of_anrs = ap (λ x. x.anrs.gone) same;
    }

-- where one channel changes, of which none are released
set_gone : (ss : List ChannelState) (i j : ℕ) (s d : ChannelState) → s.gone ≡ (get_or ss i d).gone → (get_or (set ss i s) j d).gone ≡ (get_or ss j d).gone
set_gone [] i j s d h = refl
set_gone (x ∷ xs) zero zero s d h = h
set_gone (x ∷ xs) zero (suc j) s d h = refl
set_gone (x ∷ xs) (suc i) zero s d h = refl
set_gone (x ∷ xs) (suc i) (suc j) s d h = set_gone xs i j s d h

passed_keeps : (b : Bool) (s : ChannelState) → (cond b (received_one s) s).gone ≡ s.gone
passed_keeps true s = refl
passed_keeps false s = refl

pub passed_gone : (t u : Table) (k : ℕ) → u ≡ with_channel k (received_uncopied (channel_of t k)) t → ReleasesNone t u
passed_gone t u k is =
    let s = channel_of t k in
    record {
      of_channels = λ c low.
          ap (λ x. (channel_of x c).gone) is
          ∙ set_gone t.channels (k - 1) (c - 1) (received_uncopied s) (opened_with no_terms) (passed_keeps (nat_lt s.received s.published) s);
      of_anrs = ap (λ x. x.anrs.gone) is;
    }

pub finished_gone : (t u : Table) (k seq clock : ℕ) → u ≡ finished_in k seq clock t → ReleasesNone t u
finished_gone t u k seq clock is =
    record {
      of_channels = λ c low.
          ap (λ x. (channel_of x c).gone) is ∙ set_gone t.channels (k - 1) (c - 1) (finished_at seq clock (channel_of t k)) (opened_with no_terms) refl;
      of_anrs = ap (λ x. x.anrs.gone) is;
    }

-- where one is opened
more_gone : (ss : List ChannelState) (j : ℕ) (s : ChannelState) → s.gone ≡ 0 → (get_or (ss ++ s ∷ []) j (opened_with no_terms)).gone ≡ (get_or ss j (opened_with no_terms)).gone
more_gone [] zero s h = h
more_gone [] (suc j) s h = refl
more_gone (x ∷ xs) zero s h = refl
more_gone (x ∷ xs) (suc j) s h = more_gone xs j s h

pub opened_gone : (terms : Terms) (number : ℕ) (t u : Table) → OpensChannel terms number t u → ReleasesNone t u
opened_gone terms number t u h =
    record {
      of_channels = λ c low.
          ap (λ ss. (get_or ss (c - 1) (opened_with no_terms)).gone) h.channels_are ∙ more_gone t.channels (c - 1) (new_channel terms) refl;
      of_anrs = ap (λ n. n.gone) h.anrs_are;
    }

-- if channels are reported
pub named_gone : (mask clock : ℕ) (t u : Table) → ReleasesNone (named_in mask clock t) u → ReleasesNone t u
named_gone mask clock t u h = record { of_channels = h.of_channels; of_anrs = h.of_anrs }

-- one after the other
pub both_gone : (t u v : Table) → ReleasesNone t u → ReleasesNone u v → ReleasesNone t v
both_gone t u v h k =
    record { of_channels = λ c low. k.of_channels c low ∙ h.of_channels c low; of_anrs = k.of_anrs ∙ h.of_anrs }
