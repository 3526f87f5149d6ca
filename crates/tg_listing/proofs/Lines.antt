-- The line of an entry, and the lines of entries.
use Rattle.std.proofs.Common.{add-one, append-nil, suc, ◌+◌, ◌<◌, get_or, length, take, drop, ◌≡◌, List, [], ◌∷◌, ℕ, ◌++◌, append_assoc, ap, refl, sym, take-append-drop, drop-cons, ◌∙◌}
use Rattle.std.specs.List.{flat_map}
use Rattle.std.specs.Prelude.{map}
use Rattle.std.proofs.Math.Seq.{take-suc}
use Rattle.std.proofs.lemmas.List.Concat.{flat_map-append}
use Rattle.tg_cid.specs.Computed.{cid_text}
use Rattle.tg_listing.specs.Listings.{line_of, lines_text, named_entry}
use Rattle.tg_listing.specs.declared.line.ListingLine.{ListingLine}
use Rattle.tg_model.specs.Texts.{Named, escaped, listing_line}
use Rattle.tg_model.specs.declared.kinds.Entry.{Entry}

-- a line in its four parts
pub line_is : (old text shown : List ℕ) (entry : Entry) → text ≡ cid_text entry.cid → shown ≡ escaped entry.name
    → (((old ++ text) ++ 32 ∷ []) ++ shown) ++ 10 ∷ [] ≡ old ++ listing_line (named_entry entry)
line_is old text shown entry p q = rw (p, q) (simp append_assoc)

lines_append : (es fs : List ListingLine) → lines_text (es ++ fs) ≡ lines_text es ++ lines_text fs
lines_append es fs = flat_map-append (λ (line : ListingLine). line.text) es fs

-- those before the i-th, the i-th one, and those behind it
pub lines_split : (es : List ListingLine) (i : ℕ) (d : ListingLine) → i < length es
    → lines_text es ≡ (lines_text (take i es) ++ (get_or es i d).text) ++ lines_text (drop (suc i) es)
lines_split es i d h =
    ap lines_text (sym (take-append-drop i es) ∙ ap (λ (rest : List ListingLine). take i es ++ rest) (drop-cons es i d h))
    ∙ lines_append (take i es) (get_or es i d ∷ drop (suc i) es)
    ∙ sym (append_assoc (lines_text (take i es)) (get_or es i d).text (lines_text (drop (suc i) es)))

-- one more line
pub lines_next : (es : List ListingLine) (i : ℕ) (d : ListingLine) → i < length es → lines_text (take (i + 1) es) ≡ lines_text (take i es) ++ (get_or es i d).text
lines_next es i d h =
    ap lines_text (ap (λ (n : ℕ). take n es) (add-one i) ∙ take-suc es i d h)
    ∙ lines_append (take i es) (get_or es i d ∷ [])
    ∙ ap (λ (l : List ℕ). lines_text (take i es) ++ l) (append-nil (get_or es i d).text)

-- the text of entries' lines
pub text_of_lines : (entries : List Named) → lines_text (map line_of entries) ≡ flat_map listing_line entries
text_of_lines [] = refl
text_of_lines (e ∷ entries) = ap (λ (l : List ℕ). listing_line e ++ l) (text_of_lines entries)
