-- How each kind of step changes the view of the seat that makes it.
use Rattle.std.specs.Prelude.{ℕ, ◌+◌, max, nat_le, true, false, List, [], ◌∷◌, ◌++◌, length, Option, Some, None, if◌then◌else◌}
use Rattle.turnstile.specs.History.{Entry}
use Rattle.turnstile.specs.declared.view.View.{View}

module _ {T C R : Type 0} where
  -- a seat with a number, which has made no call and has seen the start of the history
  abbrev pub newcomer : Option T → ℕ → ℕ → List (Entry C R) → View T C R
  newcomer setup number seen known = record {
    setup = setup;
    mine = record { number = number; made = 0; own = [] };
    seen = seen;
    known = known;
    hits = 0;
    misses = 0;
    looks = 0;
    last = 0;
    joined = [];
    turn = None;
    drawn = false;
    spent = false;
  }

  -- a take that found the lock free: the seat has the turn, and knows the whole history
  abbrev pub hit : List (Entry C R) → View T C R → View T C R
  hit h v = record v { hits = v.hits + 1; turn = Some h }

  -- a take that found the lock taken
  abbrev pub missed : View T C R → View T C R
  missed v = record v { misses = v.misses + 1 }

  -- some number of takes that found the lock taken
  abbrev pub waited : ℕ → View T C R → View T C R
  waited n v = record v { misses = v.misses + n }

  -- a commit of the newest entry, which is the seat's own
  abbrev pub recorded : List (Entry C R) → View T C R → View T C R
  recorded [] v = v
  recorded (e ∷ h) v = record v {
    mine = record (v.mine) { own = (length h, e.1, e.2) ∷ v.mine.own };
    seen = length h + 1;
    known = e ∷ h;
    turn = Some (e ∷ h);
  }

  -- the lock freed
  abbrev pub freed : View T C R → View T C R
  freed v = record v { turn = None }

  -- a look that found this history
  abbrev pub looked : List (Entry C R) → View T C R → View T C R
  looked h v = record v { seen = length h; known = h; looks = v.looks + 1; last = length h }

  -- a number drawn by number 0
  abbrev pub drew : View T C R → View T C R
  drew v = record v { mine = record (v.mine) { made = v.mine.made + 1 }; drawn = true }

  -- the drawn number handed to a new seat, which has seen what this one has
  abbrev pub handed : View T C R → View T C R
  handed v = record v { drawn = false }

  -- the view of that new seat
  abbrev pub fresh : View T C R → View T C R
  fresh v = newcomer v.setup v.mine.made v.seen v.known

  -- a seat with another one joined into it
  abbrev pub together : View T C R → View T C R → View T C R
  together v w = record v {
    seen = max v.seen w.seen;
    known = (if nat_le w.seen v.seen then v.known else w.known);
    joined = w.mine ∷ w.joined ++ v.joined;
  }

  -- what is left of a seat that was joined into another
  abbrev pub gone : View T C R
  gone = record {
    setup = None;
    mine = record { number = 0; made = 0; own = [] };
    seen = 0;
    known = [];
    hits = 0;
    misses = 0;
    looks = 0;
    last = 0;
    joined = [];
    turn = None;
    drawn = false;
    spent = true;
  }

  -- a call that was answered after the history h
  abbrev pub placed : List (Entry C R) → C → R → View T C R → View T C R
  placed h call reply v = record v {
    mine = record (v.mine) { own = (length h, call, reply) ∷ v.mine.own };
    seen = length h + 1;
    known = (v.mine.number, call, reply) ∷ h;
    hits = v.hits + 1;
  }

  -- a call in which the machine ran out of memory
  abbrev pub failed : View T C R → View T C R
  failed v = record v { hits = v.hits + 1 }

  -- a new seat, split off from number 0: it has the next number, has seen what that one has and has made no call
  abbrev pub next_seat : View T C R → View T C R
  next_seat v = newcomer v.setup (v.mine.made + 1) v.seen v.known

  -- number 0 with one more number split off from it
  abbrev pub split_off : View T C R → View T C R
  split_off v = record v { mine = record (v.mine) { made = v.mine.made + 1 } }
