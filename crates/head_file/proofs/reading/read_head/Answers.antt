-- The bytes are the text of what was found.
use Rattle.std.proofs.Common.{rules, arith, ◌≡◌, ◌≤◌, true, ◌∙◌, sym, ap}
use Rattle.database_state.specs.Heads.{is_in_range}
use Rattle.head_file.proofs.reading.read_head.Goals as goal

pub returns : goal.returns
returns c =
    let same : c.in_ok-text.text.items ≡ c.args.bytes.now = search rules in
    let range : is_in_range c.in_ok-head.head ≡ true = search rules in
    (sym same ∙ c.in_ok-text.ensures.text, record { some = search rules; runs = search rules; range = range; images = c.in_ok-text.ensures.images; names = c.in_ok-text.ensures.names }, search rules)
