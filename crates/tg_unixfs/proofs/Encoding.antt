-- The text that is written for data is the data's.
use Rattle.std.proofs.Common.{◌≡◌, ℕ, ◌+◌, ◌<◌, Option, Some, List, [], ◌++◌, length, take, get_or, refl, sym, ◌∙◌, subst}
use Rattle.std.specs.Prelude.{All}
use Rattle.std.proofs.lemmas.List.{append-nil}
use Rattle.std.proofs.lemmas.List.Elements.{All-nil}
use Rattle.tg_pbtable.specs.declared.table.Field.{Field}
use Rattle.tg_pbtable.specs.declared.table.Order.TheVariants.{Ascending}
use Rattle.tg_pbtable.specs.Message.{NumberSpelling}
use Rattle.tg_pbtable.specs.Emitted.{BytesSpelling, FieldTexts, Puts}
use Rattle.tg_pbtable.specs.Laws.{TableLaws}
use Rattle.tg_pbtable.specs.PutLaws.{put_both}
use Rattle.tg_unixfs.specs.declared.TheConstants.{DATA}
use Rattle.tg_unixfs.specs.declared.Unix.{Unix}
use Rattle.tg_unixfs.specs.Unix.{IsTime, IsUnix, CanonicalText}
use Rattle.tg_unixfs.specs.Writing.{source_of, all_fields, numbered, as_numbers, optional, placed}
use Rattle.tg_unixfs.proofs.Same.{parts_again, bare_bytes}
use Rattle.tg_unixfs.proofs.Listing.{IsLow, whole, sizes_more, listed_parts, listed_counts, listed_rise, listed_ruled, listed_low, same_low}

-- the fields are put behind a text
abbrev pub PutsFields : List ℕ → List Field → List ℕ → List ℕ → Type 0
PutsFields source fields old new = Puts (λ bytes. FieldTexts source fields bytes) old new

pub number_put : (source : List ℕ) (number value : ℕ) (old new : List ℕ) → Puts (λ bytes. NumberSpelling number value bytes) old new → PutsFields source (optional number (Some value)) old new
number_put source number value old new p = record { bytes = p.bytes; whole = p.whole; spells = (p.bytes, [], sym (append-nil p.bytes), p.spells, refl) }

pub inline_put : (inline : Option (List ℕ)) (bytes content old new : List ℕ) → inline ≡ Some bytes → content ≡ bytes → Puts (λ text. BytesSpelling 2 content text) old new → PutsFields (source_of inline) (placed inline) old new
inline_put inline bytes content old new is e p =
    let spells = subst (λ (t : List ℕ). BytesSpelling 2 t p.bytes) (e ∙ sym (whole bytes)) p.spells in
    subst (λ (o : Option (List ℕ)). PutsFields (source_of o) (placed o) old new) (sym is)
    (record { bytes = p.bytes; whole = p.whole; spells = (p.bytes, [], sym (append-nil p.bytes), spells, refl) })

pub then_put : (laws : TableLaws) (source : List ℕ) (fs gs : List Field) (old mid new : List ℕ) → PutsFields source fs old mid → PutsFields source gs mid new → PutsFields source (fs ++ gs) old new
then_put laws source fs gs old mid new p q =
    put_both (FieldTexts source fs) (FieldTexts source gs) (FieldTexts source (fs ++ gs)) (λ a b s t. laws.writing.append source fs gs a b s t) old mid new p q

pub size_put : (laws : TableLaws) (source sizes : List ℕ) (i d : ℕ) (old mid new : List ℕ) → i < length sizes → PutsFields source (numbered 4 (as_numbers (take i sizes))) old mid
    → Puts (λ bytes. NumberSpelling 4 (get_or sizes i d) bytes) mid new → PutsFields source (numbered 4 (as_numbers (take (i + 1) sizes))) old new
size_put laws source sizes i d old mid new l p q =
    subst (λ (fs : List Field). PutsFields source fs old new) (sym (sizes_more sizes i d l))
    (then_put laws source (numbered 4 (as_numbers (take i sizes))) (optional 4 (Some (get_or sizes i d))) old mid new p (number_put source 4 (get_or sizes i d) mid new q))

pub encoded : (laws : TableLaws) → (u : Unix) (text : List ℕ) → IsUnix u → PutsFields (source_of u.inline) (all_fields u) [] text → CanonicalText u text
encoded laws u text is p =
    let source = source_of u.inline in
    let h = laws.writing.message DATA.now Ascending source (all_fields u) text (listed_ruled u) (listed_counts u) (listed_rise u)
    (subst (λ (t : List ℕ). FieldTexts source (all_fields u) t) (sym p.whole) p.spells) in
    let low : All IsLow h.0 = same_low source text (all_fields u) h.0 h.2 (listed_low u) in
    record {
      is_text = record {
        fields = h.0;
        message = h.1;
        parts = parts_again laws source text (all_fields u) h.0 u h.2 (listed_parts u);
        time = subst (λ (t : List (List ℕ)). All IsTime t) (sym (bare_bytes laws text h.0 low)) (All-nil IsTime);
        is_unix = is;
      };
      bare = low;
    }
