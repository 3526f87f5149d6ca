-- Two texts of the same data have the same values, and a text has one data.
use Rattle.std.proofs.Common.{◌≡◌, ℕ, zero, suc, ◌<◌, Option, List, [], ◌∷◌, get_or, refl, sym, ◌∙◌, subst, arith}
use Rattle.std.specs.Prelude.{All}
use Rattle.tg_pbtable.specs.declared.table.Rule.{Rule}
use Rattle.tg_pbtable.specs.declared.table.Wire.TheVariants.{Varint, Bytes}
use Rattle.tg_pbtable.specs.declared.table.Field.{Field}
use Rattle.tg_pbtable.specs.declared.table.Order.TheVariants.{Ascending}
use Rattle.tg_pbtable.specs.Message.{Message}
use Rattle.tg_pbtable.specs.Emitted.{AreSameFields}
use Rattle.tg_pbtable.specs.Values.{numbers_at, bytes_at, HasSameValues, IsSameFor}
use Rattle.tg_pbtable.specs.Laws.{TableLaws}
use Rattle.tg_unixfs.specs.declared.TheConstants.{DATA}
use Rattle.tg_unixfs.specs.declared.Unix.{Unix}
use Rattle.tg_unixfs.specs.Unix.{HasParts, CanonicalText}
use Rattle.tg_unixfs.proofs.Parts.{data_table}

-- ---- the same fields have the same parts

pub parts_again : (laws : TableLaws) → (s t : List ℕ) (fs gs : List Field) (u : Unix) → AreSameFields s fs t gs → HasParts s fs u → HasParts t gs u
parts_again laws s t fs gs u same p =
    let values = laws.values.same s t fs gs same in
    record {
      kind = sym (values.numbers 1) ∙ p.kind;
      inline = sym (values.bytes 2) ∙ p.inline;
      filesize = sym (values.numbers 3) ∙ p.filesize;
      sizes = sym (values.numbers 4) ∙ p.sizes;
      hash = sym (values.numbers 5) ∙ p.hash;
      fanout = sym (values.numbers 6) ∙ p.fanout;
    }

-- ---- two texts of the same data

each_same : (s t : List ℕ) (fs gs : List Field) (u : Unix) → HasParts s fs u → HasParts t gs u → IsSameFor s fs t gs 7 Varint → IsSameFor s fs t gs 8 Bytes → (k : ℕ) (d : Rule) → k < 8 → IsSameFor s fs t gs (get_or DATA.now k d).number (get_or DATA.now k d).wire
each_same s t fs gs u p q mode time zero d l = p.kind ∙ sym q.kind
each_same s t fs gs u p q mode time (suc zero) d l = p.inline ∙ sym q.inline
each_same s t fs gs u p q mode time (suc (suc zero)) d l = p.filesize ∙ sym q.filesize
each_same s t fs gs u p q mode time (suc (suc (suc zero))) d l = p.sizes ∙ sym q.sizes
each_same s t fs gs u p q mode time (suc (suc (suc (suc zero)))) d l = p.hash ∙ sym q.hash
each_same s t fs gs u p q mode time (suc (suc (suc (suc (suc zero))))) d l = p.fanout ∙ sym q.fanout
each_same s t fs gs u p q mode time (suc (suc (suc (suc (suc (suc zero)))))) d l = mode
each_same s t fs gs u p q mode time (suc (suc (suc (suc (suc (suc (suc zero))))))) d l = time
each_same s t fs gs u p q mode time (suc (suc (suc (suc (suc (suc (suc (suc k)))))))) d l = absurd (omega arith)

-- fields of low numbers alone have no mode and no modification time
bare_numbers : (laws : TableLaws) → (fs : List Field) → All (λ (f : Field). f.number < 7) fs → numbers_at 7 fs ≡ []
bare_numbers laws fs bare = laws.values.no_numbers 7 fs (λ k d l e. let low : (get_or fs k d).number < 7 = bare k d l in absurd (omega arith))

pub bare_bytes : (laws : TableLaws) → (text : List ℕ) (fs : List Field) → All (λ (f : Field). f.number < 7) fs → bytes_at text 8 fs ≡ []
bare_bytes laws text fs bare = laws.values.no_bytes text 8 fs (λ k d l e. let low : (get_or fs k d).number < 7 = bare k d l in absurd (omega arith))

pub texts_alike : (laws : TableLaws) → (s t : List ℕ) (u : Unix) (a : CanonicalText u s) (b : CanonicalText u t) → HasSameValues s a.is_text.fields t b.is_text.fields
texts_alike laws s t u a b =
    let p = a.is_text in
    let q = b.is_text in
    laws.values.by_rules DATA.now s t p.fields q.fields (data_table laws) p.message.ruled q.message.ruled
    (each_same s t p.fields q.fields u p.parts q.parts (bare_numbers laws p.fields a.bare ∙ sym (bare_numbers laws q.fields b.bare)) (bare_bytes laws s p.fields a.bare ∙ sym (bare_bytes laws t q.fields b.bare)))

-- ---- one text has one data

head_same : (a b : ℕ) → a ∷ [] ≡ b ∷ [] → a ≡ b
head_same a b e = cc

abbrev unix_of : ℕ → Option (List ℕ) → Option ℕ → List ℕ → Option ℕ → Option ℕ → Unix
unix_of k i f s h o = record { kind = k; inline = i; filesize = f; sizes = s; hash = h; fanout = o }

six_same : (k1 k2 : ℕ) (i1 i2 : Option (List ℕ)) (f1 f2 : Option ℕ) (s1 s2 : List ℕ) (h1 h2 o1 o2 : Option ℕ) → k1 ≡ k2 → i1 ≡ i2 → f1 ≡ f2 → s1 ≡ s2 → h1 ≡ h2 → o1 ≡ o2
    → unix_of k1 i1 f1 s1 h1 o1 ≡ unix_of k2 i2 f2 s2 h2 o2
six_same k1 k2 i1 i2 f1 f2 s1 s2 h1 h2 o1 o2 k i f s h o = rw (k, i, f, s, h, o) refl

parts_same : (laws : TableLaws) → (text : List ℕ) (fs : List Field) (a b : Unix) → HasParts text fs a → HasParts text fs b → a ≡ b
parts_same laws text fs a b p q = six_same a.kind b.kind a.inline b.inline a.filesize b.filesize a.sizes b.sizes a.hash b.hash a.fanout b.fanout
    (head_same a.kind b.kind (sym p.kind ∙ q.kind))
    (laws.last_bytes.listed_same a.inline b.inline (sym p.inline ∙ q.inline))
    (laws.last_number.listed_same a.filesize b.filesize (sym p.filesize ∙ q.filesize))
    (sym p.sizes ∙ q.sizes)
    (laws.last_number.listed_same a.hash b.hash (sym p.hash ∙ q.hash))
    (laws.last_number.listed_same a.fanout b.fanout (sym p.fanout ∙ q.fanout))

pub one_data : (laws : TableLaws) → (text : List ℕ) (fs gs : List Field) (a b : Unix) → Message DATA.now Ascending text fs → Message DATA.now Ascending text gs → HasParts text fs a → HasParts text gs b → a ≡ b
one_data laws text fs gs a b m n p q =
    parts_same laws text gs a b (subst (λ (xs : List Field). HasParts text xs a) (laws.messages.one_reading 0 text fs gs m.spelled n.spelled) p) q
