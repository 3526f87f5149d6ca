-- The texts of the expected answers, and the order of names by their hashes.
use Rattle.std.proofs.Common.{All, List, [], ap, append_assoc, arith, codes, get_or, length, refl, subst, sym, take, ℕ, ◌+◌, ◌++◌, ◌<◌, ◌∙◌, ◌∷◌, ◌≡◌, ◌≤◌}
use Rattle.std.proofs.lemmas.List.{get_or-map, length-map, map_more}
use Rattle.std.proofs.lemmas.List.Elements.{All-map}
use Rattle.std.proofs.lemmas.List.Sorted.{All-permutation, IsPermutation-map}
use Rattle.std.specs.List.{AllAdjacentBelow}
use Rattle.std.specs.List.Sorted.{IsNonDecreasingBy, IsPermutation}
use Rattle.std.specs.Prelude.{map}
use Rattle.tg_audit_texts.specs.Expected.{AreExpected, IsBundle, IsHashOrder, file_record, first_of, hashed_name, last_of, named_from, part}
use Rattle.tg_audit_texts.specs.Hashing.{IsHashOf}
use Rattle.tg_audit_texts.specs.declared.expected.HashedName.{HashedName}
use Rattle.tg_audit_texts.specs.declared.hashing.Hashed.{Hashed}
use Rattle.tg_bytes.specs.Ascii.{line_feed, space}
use Rattle.tg_draws.specs.Trees.{file_name}
use Rattle.tg_draws.specs.declared.drawing.Drawn.{Drawn}
use Rattle.tg_model.specs.Texts.{dir_line, listing}
use Rattle.tg_murmur.specs.NameHash.{name_hash}

-- ---- the order of names by their hashes

abbrev pub number_of : HashedName → ℕ
number_of file = file.number

abbrev pub hash_of : HashedName → ℕ
hash_of file = file.hash

abbrev HasItsHash : HashedName → Type 0
HasItsHash file = file.hash ≡ name_hash (file_name file.number)

numbers_kept : (numbers : List ℕ) → map number_of (map hashed_name numbers) ≡ numbers
numbers_kept [] = refl
numbers_kept (n ∷ numbers) = ap (λ (l : List ℕ). n ∷ l) (numbers_kept numbers)

at_most : (a b c d : ℕ) → a ≡ c → b ≡ d → c ≤ d → a ≤ b
at_most a b c d p q h = omega arith

abbrev Ascend : ℕ → ℕ → Type 0
Ascend before next = name_hash (file_name before) ≤ name_hash (file_name next)

ascending : (files : List HashedName) → All HasItsHash files → IsNonDecreasingBy hash_of files
    → AllAdjacentBelow Ascend (map number_of files) (length (map number_of files))
ascending files all up = λ k d h.
    let e : HashedName = record { hash = 0; number = d } in
    let size = length-map files number_of in
    let inside : k + 1 < length files = omega arith in
    at_most _ _ _ _ (at e k (omega arith)) (at e (k + 1) inside) (up k (k + 1) e (omega arith) inside)
  where
    at : (e : HashedName) (i : ℕ) → i < length files → name_hash (file_name (get_or (map number_of files) i e.number)) ≡ (get_or files i e).hash
    at e i h = ap (λ (n : ℕ). name_hash (file_name n)) (get_or-map number_of files i e e.number h) ∙ sym (all i e h)

pub hash_order : (numbers order : List ℕ) (drawn files : List HashedName) → drawn ≡ map hashed_name numbers → IsPermutation drawn files
    → IsNonDecreasingBy hash_of files → order ≡ map number_of files → IsHashOrder numbers order
hash_order numbers order drawn files drawn_is moved up order_is =
    let moved_names : IsPermutation (map hashed_name numbers) files = subst (λ (l : List HashedName). IsPermutation l files) drawn_is moved in
    let all_drawn : All HasItsHash (map hashed_name numbers) = All-map HasItsHash hashed_name numbers (λ k d h. refl) in
    let all : All HasItsHash files = All-permutation HasItsHash (map hashed_name numbers) files moved_names all_drawn in
    record {
      permutation =
          subst (λ (l : List ℕ). IsPermutation numbers l) (sym order_is)
          (subst (λ (l : List ℕ). IsPermutation l (map number_of files)) (numbers_kept numbers)
          (IsPermutation-map number_of (map hashed_name numbers) files moved_names));
      ascends = subst (λ (l : List ℕ). AllAdjacentBelow Ascend l (length l)) (sym order_is) (ascending files all up);
    }

-- one more file with its name's hash, and one more number
pub names_more : (numbers : List ℕ) (i d hash : ℕ) (files : List HashedName) → i < length numbers → hash ≡ name_hash (file_name (get_or numbers i d))
    → files ≡ map hashed_name (take i numbers)
    → files ++ record { hash = hash; number = get_or numbers i d } ∷ [] ≡ map hashed_name (take (i + 1) numbers)
names_more numbers i d hash files h hash_is same =
    let number : ℕ = get_or numbers i d in
    ap (λ (l : List HashedName). l ++ record { hash = hash; number = number } ∷ []) same
    ∙ ap (λ (x : ℕ). map hashed_name (take i numbers) ++ record { hash = x; number = number } ∷ []) hash_is
    ∙ sym (map_more hashed_name numbers i d h)

pub numbers_on : (files : List HashedName) (i : ℕ) (d : HashedName) (numbers : List ℕ) → i < length files → numbers ≡ map number_of (take i files)
    → numbers ++ (get_or files i d).number ∷ [] ≡ map number_of (take (i + 1) files)
numbers_on files i d numbers h same = ap (λ (l : List ℕ). l ++ (get_or files i d).number ∷ []) same ∙ sym (map_more number_of files i d h)

-- ---- texts in their parts

pub record_text : (text label size folder name bytes : List ℕ)
    → (((((((text ++ label) ++ size) ++ space ∷ []) ++ folder) ++ name) ++ line_feed ∷ []) ++ bytes) ++ line_feed ∷ []
    ≡ text ++ ((label ++ (size ++ space ∷ ((folder ++ name) ++ line_feed ∷ []))) ++ (bytes ++ line_feed ∷ []))
record_text text label size folder name bytes = simp append_assoc

joined_text : (a b c d e f : List ℕ) → ((((([] ++ a) ++ b) ++ (c ++ d)) ++ e) ++ f) ≡ a ++ (b ++ (c ++ (d ++ (e ++ f))))
joined_text a b c d e f = simp append_assoc

pub bundle_text : (big files : List ℕ)
    → ((((([] ++ codes "dir /\n") ++ file_record (codes "/" ++ codes "big") big) ++ codes "dir /empty\ndir /many\n") ++ files)
    ++ file_record (codes "/" ++ codes "none") [])
    ≡ dir_line (codes "/") ++ (file_record (codes "/big") big ++ (dir_line (codes "/empty")
    ++ (dir_line (codes "/many") ++ (files ++ file_record (codes "/none") []))))
bundle_text big files =
    joined_text (dir_line (codes "/")) (file_record (codes "/big") big) (dir_line (codes "/empty")) (dir_line (codes "/many")) files
    (file_record (codes "/none") [])

-- ---- the expected answers

pub are_expected : (drawn : Drawn) (text : List ℕ) (a b c d e f g h : Hashed) → IsBundle drawn text → IsHashOf text a → IsHashOf (part 1048575 2 drawn.big) b
    → IsHashOf (last_of 5 drawn.big) c → IsHashOf [] d → IsHashOf (listing (named_from 0 drawn.many)) e → IsHashOf [] f → IsHashOf (dir_line (codes "/")) g
    → IsHashOf (first_of drawn.many) h → AreExpected drawn (a ∷ b ∷ c ∷ d ∷ e ∷ f ∷ g ∷ h ∷ [])
are_expected drawn text a b c d e f g h is ah bh ch dh eh fh gh hh = record {
  texts = text ∷ part 1048575 2 drawn.big ∷ last_of 5 drawn.big ∷ [] ∷ listing (named_from 0 drawn.many) ∷ [] ∷ dir_line (codes "/") ∷ first_of drawn.many ∷ [];
  texts_are = record { bundle = text; bundle_is = is; are = refl };
  hashed_are = (ah, (bh, (ch, (dh, (eh, (fh, (gh, (hh, refl))))))));
}

-- the first file
pub first_there : (many : List (List ℕ)) (bytes : List ℕ) → 0 < length many → bytes ≡ get_or many 0 bytes → bytes ≡ first_of many
first_there [] bytes h is = absurd (omega arith)
first_there (b ∷ many) bytes h is = is
