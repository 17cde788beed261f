use Rattle.device_reader.proofs.TouchMapper.Rising.{rises_of}
use Rattle.device_reader.proofs.touch_mapper.lists.in_use.Goals as goal

pub returns-clause-rises : goal.returns-clause-rises
returns-clause-rises c = rises_of c.as_slice.result.now c.as_slice.ensures.rises
