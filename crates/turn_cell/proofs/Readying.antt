-- What each call of a table requires of the seat's table.
use Rattle.std.proofs.Common.{◌≡◌, ◌<◌, ap, sym, ◌∙◌, arith}
use Rattle.atomic_table.specs.Seated.{TableId}

-- a seat of the table that an end reaches by its pointer, which has a word
pub ready : (seated table reached : TableId) → seated ≡ table → table.words ≡ 1 → reached ≡ table → (seated ≡ reached) × (0 < reached.words)
ready seated table reached same words is = (same ∙ sym is, omega (arith, ap (λ z. z.words) is, words))
