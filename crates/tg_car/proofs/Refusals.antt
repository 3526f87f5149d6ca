-- A refusal is determined by the bytes, however they were cut.
use Rattle.std.proofs.Common.{◌≡◌, ◌≢◌, ℕ, ◌-◌, ◌<◌, Option, Some, List, [], ◌∷◌, ◌++◌, length, refl, ap, ap₂, sym, ◌∙◌, subst, inl, inr, arith}
use Rattle.std.proofs.lemmas.Bool.{cases_lt}
use Rattle.std.proofs.lemmas.List.{append_assoc, append-nil, append_cancel_left, length_push}
use Rattle.std.proofs.lemmas.List.Elements.{All-nil}
use Rattle.tg_bytes.specs.Lists.{same_front, longer}
use Rattle.tg_car.specs.TextLaws.{TextLaws}
use Rattle.tg_car.specs.declared.section.Section.{Section}
use Rattle.tg_car.specs.declared.event.Event.{Event}
use Rattle.tg_car.specs.declared.fault.CarFault.{CarFault}
use Rattle.tg_car.specs.declared.fault.CarFault.TheVariants as faults
use Rattle.tg_car.specs.CarText.{SectionsText}
use Rattle.tg_car.specs.Fronts.{IsCarFront, IsInHeader, IsInSection, Reaches}
use Rattle.tg_car.specs.Faults.{shown, BreaksHeader, BreaksSection, PassesLimit, Brings}
use Rattle.tg_car.specs.Heads.{HeadText}
use Rattle.tg_car.specs.History.{History, Stop, at_piece, GoesOn, HasStopped, StopsAt, IsExact}
use Rattle.tg_car.proofs.Parts.{block_inside}
use Rattle.tg_car.proofs.Sections.{onward}
use Rattle.tg_car.proofs.Divisions.{same_header, none_in_header, nothing_left, section_front, missed, same_given}

-- bytes reach one front of a section
same_rest : TextLaws → (limit : ℕ) (bytes : List ℕ) (ss ts : List Section) (r q : List ℕ) → Reaches limit bytes ss r → Reaches limit bytes ts q
    → IsInSection r → IsInSection q → r ≡ q
same_rest laws limit bytes ss ts r q a b inside other =
    let both : a.header ++ (a.done ++ r) ≡ b.header ++ (b.done ++ q) = sym a.whole ∙ b.whole in
    let headers = same_header laws a.roots b.roots a.header b.header (a.done ++ r) (b.done ++ q) a.header_is b.header_is both in
    let rests : a.done ++ r ≡ b.done ++ q =
    append_cancel_left b.header (a.done ++ r) (b.done ++ q) (ap (λ (l : List ℕ). l ++ (a.done ++ r)) (sym headers.0) ∙ both) in
    let on = onward laws ts ss a.done b.done q r b.sections_are a.sections_are inside rests in
    let none : on.sections ≡ [] = nothing_left laws on.sections on.middle r q on.text other on.rest in
    let middle : on.middle ≡ [] = subst (λ (us : List Section). SectionsText us on.middle) none on.text in
    sym (on.rest ∙ ap (λ (l : List ℕ). l ++ r) middle)

same_before : (bytes p q : List ℕ) (x y : ℕ) → bytes ≡ p ++ x ∷ [] → bytes ≡ q ++ y ∷ [] → p ≡ q
same_before bytes p q x y e f =
    let long : length (p ++ x ∷ []) ≡ length (q ++ y ∷ []) = ap length (sym e ∙ f) in
    (same_front p q (x ∷ []) (y ∷ []) (omega (arith, length_push p x, length_push q y)) (sym e ∙ f)).0

header_apart : TextLaws → (limit : ℕ) (bytes : List ℕ) (at : ℕ) → BreaksHeader bytes → BreaksSection limit bytes at → ⊥
header_apart laws limit bytes at b s =
    let same : b.before ≡ s.before = same_before bytes b.before s.before b.last s.last b.whole s.whole in
    none_in_header laws s.reaches.roots s.reaches.header (s.reaches.done ++ s.rest) s.before s.reaches.header_is (sym s.reaches.whole)
    (subst IsInHeader same b.went_on)

-- bytes of a section that is too long begin a CAR
passes_inside : (limit : ℕ) (bytes : List ℕ) (at : ℕ) → (p : PassesLimit limit bytes at) → IsInSection (p.size ++ p.name)
passes_inside limit bytes at p =
    let text : HeadText p.cid p.number (p.size ++ p.name) = record { size = p.size; name = p.name; whole = refl; size_is = p.size_is; name_is = p.name_is } in
    let above : limit < p.number = p.above in
    subst IsInSection (append-nil (p.size ++ p.name)) (block_inside p.cid p.number (p.size ++ p.name) [] text (omega arith) (All-nil (λ (b : ℕ). b < 256)))

passes_front : (limit : ℕ) (bytes : List ℕ) (at : ℕ) → PassesLimit limit bytes at → IsCarFront bytes
passes_front limit bytes at p = section_front limit bytes p.sections (p.size ++ p.name) p.reaches (passes_inside limit bytes at p)

breaks_once : TextLaws → (limit : ℕ) (bytes : List ℕ) (m n : ℕ) → BreaksSection limit bytes m → BreaksSection limit bytes n → m ≡ n
breaks_once laws limit bytes m n a b =
    let same : a.before ≡ b.before = same_before bytes a.before b.before a.last b.last a.whole b.whole in
    let rests : a.rest ≡ b.rest =
    same_rest laws limit b.before a.sections b.sections a.rest b.rest (subst (λ (l : List ℕ). Reaches limit l a.sections a.rest) same a.reaches) b.reaches a.went_on b.went_on in
    a.at_is ∙ (ap₂ (λ (l r : List ℕ). length l - length r) same rests ∙ sym b.at_is)

passes_once : TextLaws → (limit : ℕ) (bytes : List ℕ) (m n : ℕ) → PassesLimit limit bytes m → PassesLimit limit bytes n → m ≡ n
passes_once laws limit bytes m n a b =
    let rests : a.size ++ a.name ≡ b.size ++ b.name =
    same_rest laws limit bytes a.sections b.sections (a.size ++ a.name) (b.size ++ b.name) a.reaches b.reaches (passes_inside limit bytes m a) (passes_inside limit bytes n b) in
    a.at_is ∙ (ap (λ (r : List ℕ). length bytes - length r) rests ∙ sym b.at_is)

-- a byte brings one fault
one_fault : TextLaws → (limit : ℕ) (bytes : List ℕ) (e f : CarFault) → e ≢ faults.OutOfMemory → f ≢ faults.OutOfMemory → Brings limit bytes e
    → Brings limit bytes f → e ≡ f
one_fault laws limit bytes faults.OutOfMemory f n m g h = absurd (n refl)
one_fault laws limit bytes (faults.Torn at) f n m g h = absurd g
one_fault laws limit bytes (faults.BadHeader at) (faults.BadHeader to) n m g h = ap (λ (k : ℕ). faults.BadHeader k) (g.0 ∙ sym h.0)
one_fault laws limit bytes (faults.BadHeader at) (faults.BadSection to) n m g h = absurd (header_apart laws limit bytes h.0 g.1 h.2)
one_fault laws limit bytes (faults.BadHeader at) (faults.BlockLimit to number) n m g h = absurd (g.1.hopeless (passes_front limit bytes h.1 h.3))
one_fault laws limit bytes (faults.BadHeader at) (faults.Torn to) n m g h = absurd h
one_fault laws limit bytes (faults.BadHeader at) faults.OutOfMemory n m g h = absurd (m refl)
one_fault laws limit bytes (faults.BadSection at) (faults.BadHeader to) n m g h = absurd (header_apart laws limit bytes g.0 h.1 g.2)
one_fault laws limit bytes (faults.BadSection at) (faults.BadSection to) n m g h =
    ap (λ (k : ℕ). faults.BadSection k) (g.1 ∙ (ap shown (breaks_once laws limit bytes g.0 h.0 g.2 h.2) ∙ sym h.1))
one_fault laws limit bytes (faults.BadSection at) (faults.BlockLimit to number) n m g h = absurd (g.2.hopeless (passes_front limit bytes h.1 h.3))
one_fault laws limit bytes (faults.BadSection at) (faults.Torn to) n m g h = absurd h
one_fault laws limit bytes (faults.BadSection at) faults.OutOfMemory n m g h = absurd (m refl)
one_fault laws limit bytes (faults.BlockLimit at number) (faults.BadHeader to) n m g h = absurd (h.1.hopeless (passes_front limit bytes g.1 g.3))
one_fault laws limit bytes (faults.BlockLimit at number) (faults.BadSection to) n m g h = absurd (h.2.hopeless (passes_front limit bytes g.1 g.3))
one_fault laws limit bytes (faults.BlockLimit at number) (faults.BlockLimit to most) n m g h =
    ap₂ (λ (k l : ℕ). faults.BlockLimit k l) (g.2 ∙ (ap shown (passes_once laws limit bytes g.1 h.1 g.3 h.3) ∙ sym h.2)) (g.0 ∙ sym h.0)
one_fault laws limit bytes (faults.BlockLimit at number) (faults.Torn to) n m g h = absurd h
one_fault laws limit bytes (faults.BlockLimit at number) faults.OutOfMemory n m g h = absurd (m refl)

-- what was handed to a reader, up to the byte that it refused and behind that
handed : (fed front more x : List ℕ) (last : ℕ) → (fed ++ (front ++ last ∷ more)) ++ x ≡ ((fed ++ front) ++ last ∷ []) ++ (more ++ x)
handed fed front more x last =
    ap (λ (l : List ℕ). l ++ x) (sym (append_assoc fed front (last ∷ more)) ∙ sym (append_assoc (fed ++ front) (last ∷ []) more))
    ∙ append_assoc ((fed ++ front) ++ last ∷ []) more x

-- no byte that goes on behind it is refused
not_before : TextLaws → (limit : ℕ) (given : List Event) (a b x y : List ℕ) (last next : ℕ) (e : CarFault) → e ≢ faults.OutOfMemory
    → (a ++ last ∷ []) ++ x ≡ (b ++ next ∷ []) ++ y → length a < length b → GoesOn limit b given → Brings limit (a ++ last ∷ []) e → ⊥
not_before laws limit given a b x y last next e n both less goes brings =
    let l = longer (a ++ last ∷ []) b x (next ∷ y) (both ∙ append_assoc b (next ∷ []) y) (omega (arith, length_push a last)) in
    missed laws limit b given (a ++ last ∷ []) l.middle e goes n l.first brings

pub one_refusal : TextLaws → (limit : ℕ) (g h : History) (p q x y : List ℕ) (e f : CarFault) → IsExact limit g → IsExact limit h
    → g.stop ≡ Some (at_piece p e) → h.stop ≡ Some (at_piece q f) → e ≢ faults.OutOfMemory → f ≢ faults.OutOfMemory
    → (g.fed ++ p) ++ x ≡ (h.fed ++ q) ++ y → (e ≡ f) × (g.given ≡ h.given)
one_refusal laws limit g h p q x y e f exact other sg sh n m same =
    let s : StopsAt limit g.fed g.given p e = subst (λ (o : Option Stop). HasStopped limit g o) sg exact.stopped in
    let t : StopsAt limit h.fed h.given q f = subst (λ (o : Option Stop). HasStopped limit h o) sh other.stopped in
    let a = g.fed ++ s.front in
    let b = h.fed ++ t.front in
    let left : (g.fed ++ p) ++ x ≡ (a ++ s.last ∷ []) ++ (s.more ++ x) =
    ap (λ (l : List ℕ). (g.fed ++ l) ++ x) s.whole ∙ handed g.fed s.front s.more x s.last in
    let right : (h.fed ++ q) ++ y ≡ (b ++ t.last ∷ []) ++ (t.more ++ y) =
    ap (λ (l : List ℕ). (h.fed ++ l) ++ y) t.whole ∙ handed h.fed t.front t.more y t.last in
    let both : (a ++ s.last ∷ []) ++ (s.more ++ x) ≡ (b ++ t.last ∷ []) ++ (t.more ++ y) = sym left ∙ (same ∙ right) in
    elim (cases_lt (length a) (length b)) [
      | inl less ↦ absurd (not_before laws limit h.given a b (s.more ++ x) (t.more ++ y) s.last t.last e n both less t.went_on s.brings)
      | inr least ↦ elim (cases_lt (length b) (length a)) [
        | inl less ↦ absurd (not_before laws limit g.given b a (t.more ++ y) (s.more ++ x) t.last s.last f m (sym both) less s.went_on t.brings)
        | inr most ↦
            let long : length (a ++ s.last ∷ []) ≡ length (b ++ t.last ∷ []) = omega (arith, length_push a s.last, length_push b t.last) in
            let bytes = same_front (a ++ s.last ∷ []) (b ++ t.last ∷ []) (s.more ++ x) (t.more ++ y) long both in
            let fronts = same_front a b (s.last ∷ []) (t.last ∷ []) (omega arith) bytes.0 in (
              one_fault laws limit (b ++ t.last ∷ []) e f n m (subst (λ (l : List ℕ). Brings limit l e) bytes.0 s.brings) t.brings,
              same_given laws limit b g.given h.given (subst (λ (l : List ℕ). GoesOn limit l g.given) fronts.0 s.went_on) t.went_on,
            )
      ]
    ]
