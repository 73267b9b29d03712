-- Fields that were read as numbers.
use Rattle.std.proofs.Common.{◌≡◌, ℕ, ◌^◌, true, List, sym, subst, Some, ltb}
use Rattle.std.proofs.lemmas.Bool.{and_from}
use Rattle.text_num.specs.Numbers.{number, is_canonical, value_of}
use Rattle.text_num.proofs.Spelling.{told_of}
use Rattle.trace_model.specs.Said.{PowerOfTwo, is_table_size}
use Rattle.trace_text.specs.Forms.{read_field}

pub table_told : (text : List ℕ) (n : ℕ) → number 10 text ≡ Some n → is_table_size n ≡ true → (read_field (PowerOfTwo text) ≡ true) × (n ≡ value_of 10 text)
table_told text n e size = let t = told_of (is_canonical 10 text) (ltb (value_of 10 text) (2 ^ 64)) (value_of 10 text) n e in
    (and_from _ _ t.0 (subst (λ (m : ℕ). is_table_size m ≡ true) (sym t.2) size), sym t.2)
