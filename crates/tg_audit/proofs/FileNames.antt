-- The names of the files of `many`: good ones, which differ.
use Rattle.std.proofs.Common.{All, Bool, Contains, List, [], ap, arith, false, get_or, inl, inr, length, refl, subst, sym, true, ℕ, ◌%◌, ◌*◌, ◌+◌, ◌/◌, ◌<◌, ◌∙◌, ◌∷◌, ◌≡◌, ◌≤◌}
use Rattle.std.proofs.Math.Nat.{div-div-eq-div-mul}
use Rattle.std.proofs.lemmas.List.Elements.{All-cons, All-from_recursion, All-nil}
use Rattle.std.proofs.lemmas.Map.Keys.{IsDistinct-cons}
use Rattle.std.proofs.lemmas.Slice.Eq.{bytes_eq-Decides}
use Rattle.std.specs.List.{AllByRecursion, IsDistinct}
use Rattle.std.specs.Map.{keys_of}
use Rattle.std.specs.Prelude.{bytes_eq, ◌≢◌}
use Rattle.tg_bytes.specs.Ascii.{slash}
use Rattle.tg_audit.proofs.Members.{none_in, one_of}
use Rattle.tg_draws.specs.Draws.{FilesDrawn, file, no_file}
use Rattle.tg_draws.specs.Trees.{AreFilesFrom, digit_of, file_name}
use Rattle.tg_model.specs.EntryNames.{IsGoodName}
use Rattle.tg_tree.specs.declared.tree.Tree.{Tree}

-- ---- their six digits tell the number

from_tens : (a b : ℕ) → a / 10 ≡ b / 10 → 48 + a % 10 ≡ 48 + b % 10 → a ≡ b
from_tens a b tens ones = omega (arith, tens, ones)

-- where the digits above are the same, and this one is
pub same_with_digit : (ones a b : ℕ) → a / (ones * 10) ≡ b / (ones * 10) → digit_of ones a ≡ digit_of ones b → a / ones ≡ b / ones
same_with_digit ones a b above here = from_tens (a / ones) (b / ones) (div-div-eq-div-mul a ones 10 ∙ above ∙ sym (div-div-eq-div-mul b ones 10)) here

pub none_above : (n : ℕ) → n < 1000000 → n / 1000000 ≡ 0
none_above n h = omega (arith, h)

by_one : (n : ℕ) → n / 1 ≡ n
by_one n = omega arith

pub same_number : (a b : ℕ) → a < 1000000 → b < 1000000 → file_name a ≡ file_name b → a ≡ b
same_number a b ha hb same =
    let digit = λ (k : ℕ). ap (λ (name : List ℕ). get_or name k 0) same in
    let s5 = same_with_digit 100000 a b (none_above a ha ∙ sym (none_above b hb)) (digit 1) in
    let s4 = same_with_digit 10000 a b s5 (digit 2) in
    let s3 = same_with_digit 1000 a b s4 (digit 3) in
    let s2 = same_with_digit 100 a b s3 (digit 4) in
    let s1 = same_with_digit 10 a b s2 (digit 5) in
    let s0 = same_with_digit 1 a b s1 (digit 6) in
    sym (by_one a) ∙ s0 ∙ by_one b

-- ---- they are good

above_slash : (n : ℕ) → (48 + n ≢ slash) × (48 + n ≢ 0)
above_slash n = (λ e. omega (arith, e), λ e. omega (arith, e))

pub good_file : (n : ℕ) → IsGoodName (file_name n)
good_file n = record {
  not_empty = omega arith;
  no_slash = All-from_recursion (λ b. b ≢ slash) (file_name n) (
    (λ e. omega (arith, e)),
    (
      (above_slash (n / 100000 % 10)).0,
      (
        (above_slash (n / 10000 % 10)).0,
        ((above_slash (n / 1000 % 10)).0, ((above_slash (n / 100 % 10)).0, ((above_slash (n / 10 % 10)).0, ((above_slash (n / 1 % 10)).0, tt)))),
      ),
    ),
  );
  no_zero = All-from_recursion (λ b. b ≢ 0) (file_name n) (
    (λ e. omega (arith, e)),
    (
      (above_slash (n / 100000 % 10)).1,
      (
        (above_slash (n / 10000 % 10)).1,
        ((above_slash (n / 1000 % 10)).1, ((above_slash (n / 100 % 10)).1, ((above_slash (n / 10 % 10)).1, ((above_slash (n / 1 % 10)).1, tt)))),
      ),
    ),
  );
  not_here = λ e. let no : 7 ≡ 1 = ap length e in omega (arith, no);
  not_above = λ e. let no : 7 ≡ 2 = ap length e in omega (arith, no);
}

-- ---- they differ

not_true : {P : Type 0} (r : Bool) → (r ≡ true → P) → (P → ⊥) → r ≡ false
not_true true found refused = absurd (refused (found refl))
not_true false found refused = refl

-- a name in the folder is that of a number, from the first one on
pub number_of : (number : ℕ) (files : List (List ℕ)) (entries : List (List ℕ × Tree)) → AreFilesFrom number files entries → (name : List ℕ)
    → Contains (keys_of entries) name
    → (n : ℕ) × (n < number + length files) × (name ≡ file_name n)
number_of number [] entries h name c = absurd (none_in name (subst (λ (l : List (List ℕ × Tree)). Contains (keys_of l) name) h c))
number_of number (bytes ∷ files) [] h name c = absurd h
number_of number (bytes ∷ files) (entry ∷ entries) h name c = elim (one_of entry.0 name (keys_of entries) c) [
  | inl same ↦ (number, omega arith, sym same ∙ h.0)
  | inr behind ↦ (let (n, less, is) = number_of (number + 1) files entries h.2 name behind in (n, omega (arith, less), is))
]

apart_from : (first number : ℕ) (files : List (List ℕ)) (entries : List (List ℕ × Tree)) → first < number → number + length files ≤ 1000000
    → AreFilesFrom number files entries
    → (name : List ℕ) → name ≡ file_name first → AllByRecursion (λ y. bytes_eq name y ≡ false) (keys_of entries)
apart_from first number [] entries less few h name is =
    subst (λ (l : List (List ℕ × Tree)). AllByRecursion (λ y. bytes_eq name y ≡ false) (keys_of l)) (sym h) tt
apart_from first number (bytes ∷ files) [] less few h name is = absurd h
apart_from first number (bytes ∷ files) (entry ∷ entries) less few h name is = (
  not_true (bytes_eq name entry.0) (bytes_eq-Decides name entry.0).0
      (λ same.
      let e : first ≡ number = same_number first number (omega (arith, less, few)) (omega (arith, few)) (sym is ∙ same ∙ h.0) in
      omega (arith, e, less)),
  apart_from first (number + 1) files entries (omega (arith, less)) (omega (arith, few)) h.2 name is,
)

pub none_twice : IsDistinct bytes_eq []
unfolding IsDistinct
none_twice = tt

pub names_differ : (number : ℕ) (files : List (List ℕ)) (entries : List (List ℕ × Tree)) → number + length files ≤ 1000000
    → AreFilesFrom number files entries
    → IsDistinct bytes_eq (keys_of entries)
names_differ number [] entries few h = subst (λ (l : List (List ℕ × Tree)). IsDistinct bytes_eq (keys_of l)) (sym h) none_twice
names_differ number (bytes ∷ files) [] few h = absurd h
names_differ number (bytes ∷ files) (entry ∷ entries) few h =
    IsDistinct-cons bytes_eq entry.0 (keys_of entries)
    (apart_from number (number + 1) files entries (omega arith) (omega (arith, few)) h.2 entry.0 h.0)
    (names_differ (number + 1) files entries (omega (arith, few)) h.2)

pub as_many : (number : ℕ) (files : List (List ℕ)) (entries : List (List ℕ × Tree)) → AreFilesFrom number files entries
    → length entries ≡ length files
as_many number [] entries h = ap length h
as_many number (bytes ∷ files) [] h = absurd h
as_many number (bytes ∷ files) (entry ∷ entries) h = let rest = as_many (number + 1) files entries h.2 in omega (arith, rest)

-- ---- they are short

pub short_files : (state : ℕ) (files : List (List ℕ)) (behind : ℕ) → FilesDrawn state files behind → All (λ bytes. length bytes ≤ 10485760) files
short_files state _ _ (no_file s) = All-nil (λ (bytes : List ℕ). length bytes ≤ 10485760)
short_files state _ _ (file s bytes between files behind d h) =
    let many = d.count_is in
    All-cons (λ bytes. length bytes ≤ 10485760) bytes files (omega (arith, many)) (short_files between files behind h)
