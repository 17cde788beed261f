-- What the owner of a channel reads of what its window is sent.
use Rattle.input_types.specs.declared.axis.Pixel.{Pixel}
use Rattle.input_types.specs.declared.message.Body.{Body}
use Rattle.input_types.specs.declared.message.Body.TheVariants.{Motion, Key, Focus}
use Rattle.dispatch_history.specs.Said.{motion_from}

-- a body in display pixels, with the places of a motion counted from an origin
abbrev pub body_from : Pixel → Body → Body
body_from o (Motion m) = Motion (motion_from o m)
body_from o (Key k) = Key k
body_from o (Focus b) = Focus b
