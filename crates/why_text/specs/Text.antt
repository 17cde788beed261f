-- The text of the causes of a run.
use Rattle.std.specs.Prelude.{codes, ℕ, Bool, true, false, ◌==◌, if◌then◌else◌, List, [], ◌∷◌, ◌++◌, flat_map, Option, Some, None}
use Rattle.std.specs.Fmt.{decimal}
use Rattle.focus_resolver.specs.Resolver.{all_displays}
use Rattle.dispatch_history.specs.History.{History, clock}
use Rattle.dispatch_history.specs.Focus.{focus, key_target}
use Rattle.dispatch_history.specs.Effect.{Effect, past_of}
use Rattle.why_text.specs.Words.{channel_word}
use Rattle.why_text.specs.Lines.{call_words}

-- two channels, or none, are the same
abbrev pub same_channel : Option ℕ → Option ℕ → Bool
same_channel None None = true
same_channel (Some c) (Some e) = c == e
same_channel a b = false

-- a change from one channel to another, after some words; no line if there is none
abbrev pub change_words : List ℕ → Option ℕ → Option ℕ → List (List ℕ)
change_words words a b = if same_channel a b then [] else (words ++ channel_word a ++ codes " " ++ channel_word b) ∷ []

-- the focus changes of each display, by rising display, and then that of the key target
abbrev pub focus_words : (before after : History) → List (List ℕ)
focus_words before after =
    flat_map (λ y. change_words (codes "focus " ++ decimal y ++ codes " ") (focus before y) (focus after y)) all_displays
    ++ change_words (codes "target ") (key_target before) (key_target after)

-- the lines of a step: those of its call, and then those of the focus
abbrev pub step_words : List ℕ → History → Effect → List Effect → List (List ℕ)
step_words displays [] x before = []
step_words displays (e ∷ h) x before = call_words displays e.0 e.1 x before ++ focus_words (past_of before) x.past

-- a line: the clock after the step, and the words
abbrev pub line : ℕ → List ℕ → List ℕ
line t words = decimal t ++ codes " " ++ words ++ codes "\n"

-- the lines of a step as a text
abbrev pub step_text : List ℕ → Effect → List Effect → List ℕ
step_text displays x before = flat_map (line (clock x.past)) (step_words displays x.past x before)

-- the text of the causes of a history with these effects, step by step, for devices on these displays
abbrev pub why_text : List ℕ → List Effect → List ℕ
why_text displays [] = []
why_text displays (x ∷ before) = why_text displays before ++ step_text displays x before
