-- A word ends where the first blank or line feed stands.
use Rattle.std.proofs.Common.{rules, arith, ◌≡◌, ◌+◌, Some, None, length, take, drop, ◌∙◌, sym, ap}
use Rattle.std.proofs.lemmas.List.{take_rest}
use Rattle.head_file.proofs.Front.{word_ends, word_before, rest_behind}
use Rattle.head_file.proofs.words.next_word.Goals as goal

pub returns-in-Some : goal.returns-in-Some
returns-in-Some c = λ word rest end is small e.
    let ends = word_ends c.args.text.now word rest end is small e in
    let at : c.in-Some.at ≡ length word = let both : Some c.in-Some.at ≡ Some (length word) = sym c.in-Some.is ∙ c.word_end.ensures ∙ ends in cc in
    (word_before c.args.text.now word rest end c.in-Some.at e at, take_rest c.args.text.now (c.in-Some.at + 1) ∙ rest_behind c.args.text.now word rest end c.in-Some.at e at)

pub returns-in-None : goal.returns-in-None
returns-in-None c = λ word rest end is small e.
    let ends = word_ends c.args.text.now word rest end is small e in
    let none : None ≡ Some (length word) = sym c.in-None.is ∙ c.word_end.ensures ∙ ends in
    cc
