-- The definition of a made trace at worked examples, by computation alone.
use Rattle.std.specs.Fmt.{digits}
use Rattle.std.proofs.Common.{◌≡◌, [], ◌∷◌, map, refl, codes}
use Rattle.sample_key.specs.declared.events.Event.TheVariants.{Cycles, Imiss}
use Rattle.text_num.specs.Lines.{text_of_lines}
use Rattle.trace_model.specs.Said.{Sampled, Drained, Merged, line_text}
use Rattle.trace_generator.specs.Draws.{drawn, stepped, state_after}
use Rattle.trace_generator.specs.Generator.{made_trace, records_after, sample_from}

without_samples : text_of_lines (map line_text (made_trace 0 0)) ≡ codes "dcpi-trace 1 cpus 4 buckets 4096 buffer 8192\nkernel fffffc0000000000 400000 vmunix\nscan 1 120000000 40000 prog1\nscan 1 3ff80000000 100000 libc.so\nscan 2 120000000 40000 prog2\nscan 2 3ff80000000 100000 libc.so\nscan 3 120000000 40000 prog3\nscan 3 3ff80000000 100000 libc.so\nscan 4 120000000 40000 prog0\nscan 4 3ff80000000 100000 libc.so\nscan 5 120000000 40000 prog1\nscan 5 3ff80000000 100000 libc.so\nscan 6 120000000 40000 prog2\nscan 6 3ff80000000 100000 libc.so\nscan 7 120000000 40000 prog3\nscan 7 3ff80000000 100000 libc.so\nscan 8 120000000 40000 prog0\nscan 8 3ff80000000 100000 libc.so\nend\n"
unfolding digits
without_samples = refl

first_of_zero : sample_from 0 ≡ Sampled 3 1 0xfffffc00000005d0 Imiss
unfolding stepped drawn
first_of_zero = refl

second_of_zero : sample_from (state_after 0 5) ≡ Sampled 3 1 0x3ff80000780 Cycles
unfolding stepped drawn
second_of_zero = refl

after_most : records_after 9999 ≡ []
after_most = refl

after_ten_thousand : records_after 10000 ≡ Drained ∷ []
after_ten_thousand = refl

after_a_hundred_thousand : records_after 100000 ≡ Drained ∷ Merged ∷ []
after_a_hundred_thousand = refl
