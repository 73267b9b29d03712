-- What the lines of a trace say while they are made.
use Rattle.std.specs.Prelude.{ℕ, List, map}
use Rattle.trace_model.specs.declared.notices.Line.{Line}
use Rattle.trace_model.specs.Said.{Said}
use Rattle.trace_model.specs.Recording.{line_said}
use Rattle.trace_generator.specs.Generator.{image_names}

-- what these lines say in a made trace
abbrev pub said_of : List Line → List (Said ℕ)
said_of lines = map (line_said image_names) lines
