-- `settings::check::conjunction_accepted` meets its contract: the letters are the low bytes, and what the library calls a letter is one. Assumes nothing.
use Rattle.std.proofs.Common.{◌≡◌, Bool, ◌&&◌, List, ℕ, ◌/◌, ◌^◌, ◌<◌, ◌≤◌, get_or, take, refl, ap, ◌∙◌, arith, rules, tests, le-leb}
use Rattle.std.specs.Char.{is_ascii_alphabetic}
use Rattle.std.specs.Int.{to_le_bytes, w64}
use Rattle.std.specs.List.{list_all}
use Rattle.std.proofs.lemmas.Bool.{lt-leb}
use Rattle.std.proofs.lemmas.Iterator.{YieldsList-from_slice}
use Rattle.std.proofs.lemmas.Iterator.Search.{all_from_yields_List}
use Rattle.std.proofs.lemmas.List.Recursion.{same_from_clauses}
use Rattle.rules.specs.Common.{all, between}
use Rattle.rules.specs.SettingsAndUnitTable.{LETTER, is, low_bytes, letters_of, conjunction_accepted}
use Rattle.rules.proofs.Laws.Lists.{all_alike}
use Rattle.rules.proofs.Laws.Tests.{and_false}
use Rattle.settings.specs.Laws.Settings.{low_bytes_first, low_byte, byte_letter}
use Rattle.settings.proofs.check.conjunction_accepted.Goals as goal
use Rattle.settings.proofs.check.conjunction_accepted.Goals.{then-size-lt1-via-then-size-lt1, then-size-lt1-via-else-size-lt1+then-size-gt8}

pub returns-then-size-lt1 : goal.returns-then-size-lt1
unfolding conjunction_accepted between
returns-then-size-lt1 c =
    elim c.then-size-lt1.branch [
      | then-size-lt1-via-then-size-lt1 w ↦ rw (lt-leb _ _ w.if-size-lt1.true)
      | then-size-lt1-via-else-size-lt1+then-size-gt8 w ↦ rw (lt-leb _ _ w.if-size-gt8.true, and_false)
    ]

-- what the library asks of the first bytes
letters : (n x : ℕ) → n ≤ 8 → list_all is_ascii_alphabetic (take n (to_le_bytes w64 x)) ≡ all (is LETTER) (low_bytes n x)
unfolding all
letters n x few =
    let whole : x / 256 ^ 0 ≡ x = omega arith in
    same_from_clauses (list_all is_ascii_alphabetic) (all is_ascii_alphabetic) (λ b more. is_ascii_alphabetic b && more) refl (λ _ _. refl) (λ _ _. refl) (take n (to_le_bytes w64 x))
    ∙ ap (all is_ascii_alphabetic) (low_bytes_first n 8 0 x few ∙ ap (low_bytes n) whole)
    ∙ all_alike is_ascii_alphabetic (is LETTER) (low_bytes n x) (λ i. byte_letter _ (low_byte n x i))

pub returns : goal.returns
unfolding conjunction_accepted between letters_of
returns c =
    let part = c.args.c in
    let some : 1 ≤ part.size = omega arith in
    let few : part.size ≤ 8 = omega arith in
    rw (le-leb 1 part.size some, le-leb part.size 8 few)
    (all_from_yields_List is_ascii_alphabetic _ _ _ c.all.ensures.ran
    (YieldsList-from_slice (take part.size (to_le_bytes w64 part.letters)) cc) (λ x b q k. search (rules, tests))
    ∙ letters part.size part.letters few)
