-- First lines of records, without their ends.
use Rattle.std.proofs.Common.{List, [], ap, append_assoc, arith, length, sym, ℕ, ◌++◌, ◌^◌, ◌<◌, ◌∙◌, ◌∷◌, ◌≡◌, ◌≢◌}
use Rattle.std.proofs.lemmas.List.{append_cancel_left, length-append}
use Rattle.std.specs.Prelude.{codes, decimal, get_or}
use Rattle.tg_bundles.specs.Records.{path_text}
use Rattle.tg_bytes.specs.Ascii.{line_feed, space}
use Rattle.tg_bytes.specs.Lists.{same_front}
use Rattle.tg_extract.specs.Lines.{IsGoodLine, IsGoodPath, line_text}
use Rattle.tg_extract.specs.declared.lines.Line.{Line}
use Rattle.tg_extract.specs.declared.lines.Line.TheVariants.{File, Folder, Link}

abbrev sized : ℕ → List (List ℕ) → List ℕ
sized size path = decimal size ++ space ∷ path_text path

abbrev pub bare : Line → List ℕ
bare (Folder path) = codes "dir " ++ path_text path
bare (File size path) = codes "file " ++ sized size path
bare (Link size path) = codes "link " ++ sized size path

sized_ends : (size : ℕ) (path : List (List ℕ)) → sized size path ++ line_feed ∷ [] ≡ decimal size ++ space ∷ (path_text path ++ line_feed ∷ [])
sized_ends size path = append_assoc (decimal size) (space ∷ path_text path) (line_feed ∷ [])

pub line_ends : (line : Line) → bare line ++ line_feed ∷ [] ≡ line_text line
line_ends (Folder path) = append_assoc (codes "dir ") (path_text path) (line_feed ∷ [])
line_ends (File size path) =
    append_assoc (codes "file ") (sized size path) (line_feed ∷ []) ∙ ap (λ (l : List ℕ). codes "file " ++ l) (sized_ends size path)
line_ends (Link size path) =
    append_assoc (codes "link ") (sized size path) (line_feed ∷ []) ∙ ap (λ (l : List ℕ). codes "link " ++ l) (sized_ends size path)

bare_is : (line : Line) (text : List ℕ) → line_text line ≡ text ++ line_feed ∷ [] → bare line ≡ text
bare_is line text e =
    let both : bare line ++ line_feed ∷ [] ≡ text ++ line_feed ∷ [] = line_ends line ∙ e in
    (same_front (bare line) text (line_feed ∷ []) (line_feed ∷ [])
    (omega (arith, ap length both, length-append (bare line) (line_feed ∷ []), length-append text (line_feed ∷ []))) both).0

-- the first letters differ
apart : (a b : List ℕ) → (get_or a 0 0 ≡ get_or b 0 0 → ⊥) → a ≡ b → ⊥
apart a b none e = none (ap (λ (l : List ℕ). get_or l 0 0) e)

-- the text begins otherwise
abbrev pub BeginsOtherwise : List ℕ → List ℕ → Type 0
BeginsOtherwise front text = (rest : List ℕ) → text ≢ front ++ rest

-- no good path and no good size are such a text
abbrev pub NoPath : List ℕ → Type 0
NoPath rest = (path : List (List ℕ)) → IsGoodPath path → path_text path ≢ rest

abbrev pub NoSized : List ℕ → Type 0
NoSized rest = (size : ℕ) (path : List (List ℕ)) → IsGoodPath path → size < 10 ^ 19 → decimal size ++ space ∷ path_text path ≢ rest

abbrev NoLine : List ℕ → Type 0
NoLine text = (line : Line) → IsGoodLine line → line_text line ≢ text ++ line_feed ∷ []

pub no_folder : (text rest : List ℕ) → text ≡ codes "dir " ++ rest → NoPath rest → NoLine text
no_folder text rest is none (Folder path) good e =
    none path good (append_cancel_left (codes "dir ") (path_text path) rest (bare_is (Folder path) text e ∙ is))
no_folder text rest is none (File size path) good e =
    apart (bare (File size path)) (codes "dir " ++ rest) (λ h. omega (arith, h)) (bare_is (File size path) text e ∙ is)
no_folder text rest is none (Link size path) good e =
    apart (bare (Link size path)) (codes "dir " ++ rest) (λ h. omega (arith, h)) (bare_is (Link size path) text e ∙ is)

pub no_file : (text rest : List ℕ) → text ≡ codes "file " ++ rest → NoSized rest → NoLine text
no_file text rest is none (Folder path) good e =
    apart (bare (Folder path)) (codes "file " ++ rest) (λ h. omega (arith, h)) (bare_is (Folder path) text e ∙ is)
no_file text rest is none (File size path) good e =
    none size path good.0 good.1 (append_cancel_left (codes "file ") (sized size path) rest (bare_is (File size path) text e ∙ is))
no_file text rest is none (Link size path) good e =
    apart (bare (Link size path)) (codes "file " ++ rest) (λ h. omega (arith, h)) (bare_is (Link size path) text e ∙ is)

pub no_link : (text rest : List ℕ) → text ≡ codes "link " ++ rest → NoSized rest → NoLine text
no_link text rest is none (Folder path) good e =
    apart (bare (Folder path)) (codes "link " ++ rest) (λ h. omega (arith, h)) (bare_is (Folder path) text e ∙ is)
no_link text rest is none (File size path) good e =
    apart (bare (File size path)) (codes "link " ++ rest) (λ h. omega (arith, h)) (bare_is (File size path) text e ∙ is)
no_link text rest is none (Link size path) good e =
    none size path good.0 good.1 (append_cancel_left (codes "link ") (sized size path) rest (bare_is (Link size path) text e ∙ is))

pub no_line : (text : List ℕ) → BeginsOtherwise (codes "dir ") text → BeginsOtherwise (codes "file ") text → BeginsOtherwise (codes "link ") text → NoLine text
no_line text d f l (Folder path) good e = d (path_text path) (sym (bare_is (Folder path) text e))
no_line text d f l (File size path) good e = f (sized size path) (sym (bare_is (File size path) text e))
no_line text d f l (Link size path) good e = l (sized size path) (sym (bare_is (Link size path) text e))
