-- The texts that the program prints about itself. They are the constants of src/pages.rt and src/version.rt.
use Rattle.std.specs.Prelude.{ℕ, List}
use Rattle.help_text.specs.declared.page.Name.{Name}
use Rattle.help_text.specs.declared.page.Name.TheVariants.{Replay, Race, Check, Verify, Work, Batch, Hover, Emit, Inspect, Why, Judge, Compare}
use Rattle.help_text.specs.declared.page.Page.{Page}
use Rattle.help_text.specs.declared.page.Page.TheVariants.{Help, Version, Of}
use Rattle.help_text.specs.declared.pages.TheConstants.{HELP, REPLAY, RACE, CHECK, VERIFY, WORK, BATCH, HOVER, EMIT, INSPECT, WHY, JUDGE, COMPARE}
use Rattle.help_text.specs.declared.version.TheConstants.{VERSION}

-- the help of a command
abbrev pub help_of : Name → List ℕ
help_of Replay = REPLAY.now
help_of Race = RACE.now
help_of Check = CHECK.now
help_of Verify = VERIFY.now
help_of Work = WORK.now
help_of Batch = BATCH.now
help_of Hover = HOVER.now
help_of Emit = EMIT.now
help_of Inspect = INSPECT.now
help_of Why = WHY.now
help_of Judge = JUDGE.now
help_of Compare = COMPARE.now

-- the text of a page
abbrev pub page_text : Page → List ℕ
page_text Help = HELP.now
page_text Version = VERSION.now
page_text (Of name) = help_of name
