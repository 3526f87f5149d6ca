-- Places between two fields of a message, and the field that is next.
use Rattle.std.proofs.Common.{◌≡◌, ℕ, ◌+◌, List, [], ◌∷◌, ◌++◌, length, take, drop, refl, sym, ap, ◌∙◌, append_assoc, subst, arith}
use Rattle.std.proofs.lemmas.List.{length-append, length-take-le, take-append-drop, take_at, drop_at}
use Rattle.std.proofs.lemmas.List.Elements.{All-drop, All-head}
use Rattle.tg_pbtable.specs.declared.table.Rule.{Rule}
use Rattle.tg_pbtable.specs.declared.table.Order.{Order}
use Rattle.tg_pbtable.specs.declared.table.Field.{Field}
use Rattle.tg_pbtable.specs.Message.{Message, IsRuledField, AreRuled, Spelled, FieldSpelling}
use Rattle.tg_pbtable.specs.Cursor.{StandsAt, StandsBetween, IsNextField}
use Rattle.tg_pbtable.proofs.Spellings.{one_field, spelled_push, value_more}
use Rattle.tg_pbtable.proofs.Places.{one_at}

-- ---- the fields that are to come stand behind the place

rest_spelled : (fs gs : List Field) (at : ℕ) (text a r : List ℕ) → Spelled at (fs ++ gs) text → Spelled at fs a → text ≡ a ++ r → Spelled (at + length a) gs r
rest_spelled [] gs at text a r all mine w =
    let whole : text ≡ r = w ∙ ap (λ (t : List ℕ). t ++ r) mine in
    let here : at ≡ at + length a = omega (arith, ap length mine) in
    subst (λ (n : ℕ). Spelled n gs r) here (subst (λ (t : List ℕ). Spelled at gs t) whole all)
rest_spelled (f ∷ fs) gs at text a r all mine w =
    let both : all.0 ++ all.1 ≡ mine.0 ++ (mine.1 ++ r) = sym all.2 ∙ w ∙ ap (λ (t : List ℕ). t ++ r) mine.2 ∙ append_assoc mine.0 mine.1 r in
    let same = one_field at f f all.0 mine.0 all.1 (mine.1 ++ r) all.3 mine.3 both in
    let next = subst (λ (t : List ℕ). Spelled (at + length t) (fs ++ gs) all.1) same.1 all.4 in
    let size : (at + length mine.0) + length mine.1 ≡ at + length a = omega (arith, ap length mine.2, length-append mine.0 mine.1) in
    subst (λ (n : ℕ). Spelled n gs r) size (rest_spelled fs gs (at + length mine.0) all.1 mine.1 r next mine.4 same.2)

between_rest : (rules : List Rule) (order : Order) (text : List ℕ) (at : ℕ) (behind ahead : List Field) → StandsBetween rules order text at behind ahead → Spelled at ahead (drop at text)
between_rest rules order text at behind ahead b =
    let size : 0 + length (take at text) ≡ at = omega (arith, length-take-le at text b.inside) in
    subst (λ (n : ℕ). Spelled n ahead (drop at text)) size (rest_spelled behind ahead 0 text (take at text) (drop at text) b.message.spelled b.spelled (sym (take-append-drop at text)))

rest_ruled : (rules : List Rule) (fs gs : List Field) → AreRuled rules (fs ++ gs) → AreRuled rules gs
rest_ruled rules fs gs h =
    subst (λ (t : List Field). AreRuled rules t) (drop_at fs gs (length fs) refl) (All-drop (IsRuledField rules) (length fs) (fs ++ gs) h)

-- ---- the first of them

first_stands : (rules : List Rule) (text : List ℕ) (at : ℕ) (f : Field) (fs : List Field) (s : Spelled at (f ∷ fs) (drop at text)) → AreRuled rules (f ∷ fs) → StandsAt rules text at f (at + length s.0)
first_stands rules text at f fs s r = record {
  front = s.0;
  rest = s.1;
  whole = s.2;
  spelled = s.3;
  ruled = All-head (IsRuledField rules) f fs r;
  next_is = refl;
}

-- where no field stands none is to come
pub none_ahead : (rules : List Rule) (order : Order) (text : List ℕ) (at : ℕ) (behind ahead : List Field) → StandsBetween rules order text at behind ahead
    → ((f : Field) (next : ℕ) → StandsAt rules text at f next → ⊥) → ahead ≡ []
none_ahead rules order text at behind [] b none = refl
none_ahead rules order text at behind (f ∷ fs) b none =
    let s = between_rest rules order text at behind (f ∷ fs) b in
    absurd (none f (at + length s.0) (first_stands rules text at f fs s (rest_ruled rules behind (f ∷ fs) b.message.ruled)))

nothing_there : (at : ℕ) (f : Field) (a b : List ℕ) → FieldSpelling at f a → [] ≡ a ++ b → ⊥
nothing_there at f a b s e = omega (arith, value_more at f.number f.wire f.value a s, ap length e, length-append a b)

pub next_field : (rules : List Rule) (order : Order) (text : List ℕ) (at : ℕ) (behind ahead : List Field) (f : Field) (next : ℕ) → StandsAt rules text at f next → StandsBetween rules order text at behind ahead
    → IsNextField rules order text behind ahead f next
next_field rules order text at behind [] f next s b =
    let none : drop at text ≡ [] = between_rest rules order text at behind [] b in
    absurd (nothing_there at f s.front s.rest s.spelled (sym none ∙ s.whole))
next_field rules order text at behind (g ∷ more) f next s b =
    let spelled = between_rest rules order text at behind (g ∷ more) b in
    let first = first_stands rules text at g more spelled (rest_ruled rules behind (g ∷ more) b.message.ruled) in
    let same = one_at rules text at g f (at + length spelled.0) next first s in
    let ahead_is : g ∷ more ≡ f ∷ more = ap (λ (x : Field). x ∷ more) same.0 in
    let before : length (take at text) ≡ at = length-take-le at text b.inside in
    let whole : text ≡ (take at text ++ s.front) ++ s.rest = sym (take-append-drop at text) ∙ ap (λ (t : List ℕ). take at text ++ t) s.whole ∙ sym (append_assoc (take at text) s.front s.rest) in
    let size : length (take at text ++ s.front) ≡ next = omega (arith, length-append (take at text) s.front, s.next_is) in
    let taken : take next text ≡ take at text ++ s.front = ap (take next) whole ∙ take_at (take at text ++ s.front) s.rest next size in
    let here : FieldSpelling (0 + length (take at text)) f s.front = subst (λ (n : ℕ). FieldSpelling n f s.front) (omega arith) s.spelled in
    record {
      more = more;
      ahead_is = ahead_is;
      between = record {
        message = subst (λ (fs : List Field). Message rules order text fs) (ap (λ (fs : List Field). behind ++ fs) ahead_is ∙ sym (append_assoc behind (f ∷ []) more)) b.message;
        inside = omega (arith, ap length whole, length-append (take at text ++ s.front) s.rest);
        spelled = subst (λ (t : List ℕ). Spelled 0 (behind ++ f ∷ []) t) (sym taken) (spelled_push behind f 0 (take at text) s.front b.spelled here);
      };
    }
