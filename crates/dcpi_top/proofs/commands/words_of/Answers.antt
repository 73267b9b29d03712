use Rattle.std.proofs.Common.{map, ap, string_bytes, ◌∙◌, arith}
use Rattle.dcpi_top.specs.Commands.{command_of, command_on, command_listing, command_making, command_tracing}
use Rattle.dcpi_top.proofs.Forms.{four, none_above, none_between, six, three, two}
use Rattle.dcpi_top.proofs.commands.words_of.Goals as goal

pub returns-in-len2 : goal.returns-in-len2
returns-in-len2 c = c.command_on.ensures ∙ (ap command_on c.as_bytes-in-len2.ensures.value
    ∙ (two string_bytes c.as_slice.result.now c.word-item-then-this-lt3.result c.in-len2.len_at_least c.in-len2.len_below c.word-item-then-this-lt3.is
    ∙ ap (λ l. command_of (map string_bytes l)) c.as_slice.ensures.value))

pub returns-in-len3 : goal.returns-in-len3
returns-in-len3 c = c.command_making.ensures
    ∙ ((λ i. command_making (c.as_bytes-in-len3.ensures.value i) (c.as_bytes-in-len3-2.ensures.value i) (c.as_bytes-in-len3-3.ensures.value i))
    ∙ (three string_bytes c.as_slice.result.now c.word-item-then-this-lt4.result c.seed-item.result c.samples-item.result
    c.in-len3.len_at_least c.in-len3.len_below c.word-item-then-this-lt4.is c.seed-item.is c.samples-item.is
    ∙ ap (λ l. command_of (map string_bytes l)) c.as_slice.ensures.value))

pub returns-in-len4 : goal.returns-in-len4
returns-in-len4 c = c.command_tracing.ensures
    ∙ ((λ i. command_tracing (c.as_bytes-in-len4.ensures.value i) (c.as_bytes-in-len4-2.ensures.value i) (c.as_bytes-in-len4-3.ensures.value i) (c.as_bytes-in-len4-4.ensures.value i))
    ∙ (four string_bytes c.as_slice.result.now c.word-item-then-this-lt5.result c.seed-item-then-this-lt5.result c.samples-item-then-this-lt5.result c.form-item.result
    c.in-len4.len_at_least c.in-len4.len_below c.word-item-then-this-lt5.is c.seed-item-then-this-lt5.is c.samples-item-then-this-lt5.is c.form-item.is
    ∙ ap (λ l. command_of (map string_bytes l)) c.as_slice.ensures.value))

pub returns-in-len5 : goal.returns-in-len5
returns-in-len5 c = none_between string_bytes c.as_slice.result.now (omega arith) (omega arith)
    ∙ ap (λ l. command_of (map string_bytes l)) c.as_slice.ensures.value

pub returns-in-len6 : goal.returns-in-len6
returns-in-len6 c = c.command_listing.ensures
    ∙ ((λ i. command_listing (c.as_bytes-in-len6.ensures.value i) (c.as_bytes-in-len6-2.ensures.value i) (c.as_bytes-in-len6-3.ensures.value i)
    (c.as_bytes-in-len6-4.ensures.value i) (c.as_bytes-in-len6-5.ensures.value i))
    ∙ (six string_bytes c.as_slice.result.now c.word-item-then-this-lt7.result c.kind-item.result c.epoch-item.result c.event-item.result c.form-item-then-this-lt7.result
    (record {
      low = c.in-len6.len_at_least;
      high = c.in-len6.len_below;
      first = c.word-item-then-this-lt7.is;
      third = c.kind-item.is;
      fourth = c.epoch-item.is;
      fifth = c.event-item.is;
      sixth = c.form-item-then-this-lt7.is;
    })
    ∙ ap (λ l. command_of (map string_bytes l)) c.as_slice.ensures.value))

pub returns-in-len7-up : goal.returns-in-len7-up
returns-in-len7-up c = none_above string_bytes c.as_slice.result.now c.in-len7-up.len_at_least
    ∙ ap (λ l. command_of (map string_bytes l)) c.as_slice.ensures.value
