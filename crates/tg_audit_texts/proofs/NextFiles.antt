-- The files of the folder `many`, one more at a time: their numbers, entries and records.
use Rattle.sha2.specs.Sha256.{sha256}
use Rattle.std.proofs.Common.{All, List, [], ap, append-nil, append_assoc, arith, codes, get_or, length, suc, sym, take, zero, ℕ, ◌+◌, ◌++◌, ◌<◌, ◌∙◌, ◌∷◌, ◌≡◌, ◌≤◌}
use Rattle.std.proofs.lemmas.List.{length-take, map_push, take_more}
use Rattle.std.proofs.lemmas.List.Concat.{flat_map-append}
use Rattle.std.proofs.lemmas.List.Elements.{All-cons, All-nil, All-same}
use Rattle.std.proofs.lemmas.List.Sorted.{All-permutation}
use Rattle.std.specs.Prelude.{map}
use Rattle.tg_audit_texts.specs.Expected.{IsHashOrder, bytes_at, file_record, files_bundled, named_from, numbers_from, raw_cid_of}
use Rattle.tg_draws.specs.Trees.{file_name}
use Rattle.tg_listing.specs.Listings.{line_of}
use Rattle.tg_listing.specs.declared.line.ListingLine.{ListingLine}
use Rattle.tg_model.specs.Texts.{Named}

-- ---- numbers

numbers_push : (n : ℕ) (files : List (List ℕ)) (bytes : List ℕ) → numbers_from n (files ++ bytes ∷ []) ≡ numbers_from n files ++ (n + length files) ∷ []
numbers_push n [] bytes = let e : n ≡ n + 0 = omega arith in ap (λ (k : ℕ). k ∷ []) e
numbers_push n (f ∷ files) bytes =
    let e : (n + 1) + length files ≡ n + suc (length files) = omega arith in
    ap (λ (l : List ℕ). n ∷ l) (numbers_push (n + 1) files bytes ∙ ap (λ (k : ℕ). numbers_from (n + 1) files ++ k ∷ []) e)

pub numbers_more : (files : List (List ℕ)) (i : ℕ) (numbers : List ℕ) → i < length files → numbers ≡ numbers_from 0 (take i files)
    → numbers ++ i ∷ [] ≡ numbers_from 0 (take (i + 1) files)
numbers_more files i numbers h same =
    let count : i ≡ 0 + length (take i files) = omega (arith, length-take i files) in
    ap (λ (l : List ℕ). l ++ i ∷ []) same
    ∙ ap (λ (k : ℕ). numbers_from 0 (take i files) ++ k ∷ []) count
    ∙ sym (numbers_push 0 (take i files) (get_or files i []))
    ∙ ap (numbers_from 0) (sym (take_more files i [] h))

-- they are below the one behind the last
pub numbers_below : (n m : ℕ) (files : List (List ℕ)) → n + length files ≤ m → All (λ k. k < m) (numbers_from n files)
numbers_below n m [] h = All-nil (λ (k : ℕ). k < m)
numbers_below n m (f ∷ files) h = All-cons (λ (k : ℕ). k < m) n (numbers_from (n + 1) files) (omega arith) (numbers_below (n + 1) m files (omega arith))

pub numbers_fit : (many : List (List ℕ)) (numbers : List ℕ) (m : ℕ) → length many ≤ m → numbers ≡ numbers_from 0 many → All (λ k. k < m) numbers
numbers_fit many numbers m h same = All-same (λ (k : ℕ). k < m) numbers (numbers_from 0 many) same (numbers_below 0 m many (omega arith))

pub order_fits : (many : List (List ℕ)) (numbers order : List ℕ) → numbers ≡ numbers_from 0 many → IsHashOrder numbers order → All (λ k. k < length many) order
order_fits many numbers order same is =
    All-permutation (λ (k : ℕ). k < length many) numbers order is.permutation (numbers_fit many numbers (length many) (omega arith) same)

-- ---- entries

abbrev pub named_at : ℕ → List ℕ → Named
named_at number bytes = record { name = file_name number; cid = raw_cid_of (sha256 bytes) }

named_push : (n : ℕ) (files : List (List ℕ)) (bytes : List ℕ)
    → named_from n (files ++ bytes ∷ []) ≡ named_from n files ++ named_at (n + length files) bytes ∷ []
named_push n [] bytes = let e : n ≡ n + 0 = omega arith in ap (λ (k : ℕ). named_at k bytes ∷ []) e
named_push n (f ∷ files) bytes =
    let e : (n + 1) + length files ≡ n + suc (length files) = omega arith in
    ap (λ (l : List Named). named_at n f ∷ l) (named_push (n + 1) files bytes ∙ ap (λ (k : ℕ). named_from (n + 1) files ++ named_at k bytes ∷ []) e)

named_more : (files : List (List ℕ)) (i : ℕ) (bytes : List ℕ) → i < length files → bytes ≡ get_or files i bytes
    → named_from 0 (take (i + 1) files) ≡ named_from 0 (take i files) ++ named_at i bytes ∷ []
named_more files i bytes h is =
    let count : 0 + length (take i files) ≡ i = omega (arith, length-take i files) in
    ap (named_from 0) (take_more files i bytes h ∙ ap (λ (b : List ℕ). take i files ++ b ∷ []) (sym is))
    ∙ named_push 0 (take i files) bytes
    ∙ ap (λ (k : ℕ). named_from 0 (take i files) ++ named_at k bytes ∷ []) count

pub lines_more : (files : List (List ℕ)) (i : ℕ) (bytes : List ℕ) (lines : List ListingLine) (line : ListingLine) → i < length files
    → bytes ≡ get_or files i bytes
    → line ≡ line_of (named_at i bytes) → lines ≡ map line_of (named_from 0 (take i files))
    → lines ++ line ∷ [] ≡ map line_of (named_from 0 (take (i + 1) files))
lines_more files i bytes lines line h is line_is same =
    ap (λ (l : List ListingLine). l ++ line ∷ []) same
    ∙ ap (λ (one : ListingLine). map line_of (named_from 0 (take i files)) ++ one ∷ []) line_is
    ∙ sym (map_push line_of (named_from 0 (take i files)) (named_at i bytes))
    ∙ ap (map line_of) (sym (named_more files i bytes h is))

-- ---- records

pub bytes_there : (many : List (List ℕ)) (number : ℕ) (bytes : List ℕ) → number < length many → bytes ≡ get_or many number bytes → bytes ≡ bytes_at many number
bytes_there [] number bytes h is = absurd (omega arith)
bytes_there (b ∷ many) zero bytes h is = is
bytes_there (b ∷ many) (suc number) bytes h is = bytes_there many number bytes (omega arith) is

abbrev pub record_at : List (List ℕ) → ℕ → List ℕ
record_at many number = file_record (codes "/many/" ++ file_name number) (bytes_at many number)

bundled_more : (many : List (List ℕ)) (order : List ℕ) (i d : ℕ) → i < length order
    → files_bundled many (take (i + 1) order) ≡ files_bundled many (take i order) ++ record_at many (get_or order i d)
bundled_more many order i d h =
    let number : ℕ = get_or order i d in
    ap (files_bundled many) (take_more order i d h)
    ∙ flat_map-append (record_at many) (take i order) (number ∷ [])
    ∙ ap (λ (l : List ℕ). files_bundled many (take i order) ++ l) (append-nil (record_at many number))

pub bundled_on : (many : List (List ℕ)) (order : List ℕ) (i d : ℕ) (text name bytes : List ℕ) → i < length order → get_or order i d < length many
    → name ≡ file_name (get_or order i d) → bytes ≡ get_or many (get_or order i d) bytes
    → (text ++ files_bundled many (take i order)) ++ file_record (codes "/many/" ++ name) bytes ≡ text ++ files_bundled many (take (i + 1) order)
bundled_on many order i d text name bytes h inside name_is bytes_is =
    let number : ℕ = get_or order i d in
    append_assoc text (files_bundled many (take i order)) (file_record (codes "/many/" ++ name) bytes)
    ∙ ap (λ (l : List ℕ). text ++ (files_bundled many (take i order) ++ file_record (codes "/many/" ++ l) bytes)) name_is
    ∙ ap (λ (l : List ℕ). text ++ (files_bundled many (take i order) ++ file_record (codes "/many/" ++ file_name number) l))
    (bytes_there many number bytes inside bytes_is)
    ∙ ap (λ (l : List ℕ). text ++ l) (sym (bundled_more many order i d h))
