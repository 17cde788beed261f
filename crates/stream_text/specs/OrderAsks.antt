-- What the lines of an order's text ask for.
use Rattle.dispatch_history.specs.Plan.{Line, ReaderLine, ScriptLine, PumpLine, TickLine, ReceiveLine, FinishLine}
use Rattle.stream_text.specs.declared.order_line.OrderLine.{OrderLine}
use Rattle.stream_text.specs.declared.order_line.OrderLine.TheVariants.{Reader, Script, Pump, Tick, Receive, Finish}

-- what a line of an order's text asks for
abbrev pub line_of : OrderLine → Line
line_of Reader = ReaderLine
line_of (Script lane) = ScriptLine lane
line_of Pump = PumpLine
line_of Tick = TickLine
line_of (Receive channel) = ReceiveLine channel
line_of (Finish channel seq) = FinishLine channel seq
