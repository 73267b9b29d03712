-- Each name is made of a few short pieces.
use Rattle.std.proofs.Common.{rules, arith, refl, ◌<◌, ◌^◌}
use Rattle.store_io.proofs.FileTexts.{head_is_name, known_is_name, unknown_is_name, segment_is_name}
use Rattle.store_io.proofs.file_refs.text_of.Goals as goal

pub returns-in-Head-clause-name : goal.returns-in-Head-clause-name
returns-in-Head-clause-name c = rw c.in-Head.is (head_is_name c.in-Head.g (search rules))

pub returns-in-Known-clause-name : goal.returns-in-Known-clause-name
returns-in-Known-clause-name c = rw c.in-Known.is (known_is_name c.in-Known.epoch c.in-Known.image c.in-Known.event c.in-Known.g (search rules) (search rules) (omega arith) (search rules))

pub returns-in-Unknown-clause-name : goal.returns-in-Unknown-clause-name
returns-in-Unknown-clause-name c = rw c.in-Unknown.is (unknown_is_name c.in-Unknown.epoch c.in-Unknown.event c.in-Unknown.g (search rules) (omega arith) (search rules))

pub returns-in-Segment-clause-name : goal.returns-in-Segment-clause-name
returns-in-Segment-clause-name c = rw c.in-Segment.is (segment_is_name c.in-Segment.g (search rules))
