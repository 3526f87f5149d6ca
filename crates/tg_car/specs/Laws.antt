-- What holds of the texts of CARs and of what a reader gives of them.
use Rattle.std.specs.Prelude.{◌≡◌, ◌≢◌, ℕ, Some, List, ◌++◌}
use Rattle.tg_car.specs.declared.section.Section.{Section}
use Rattle.tg_car.specs.declared.fault.CarFault.{CarFault}
use Rattle.tg_car.specs.declared.fault.CarFault.TheVariants.{OutOfMemory}
use Rattle.tg_car.specs.CarText.{HeaderText, SectionText}
use Rattle.tg_car.specs.Faults.{HasCarCause}
use Rattle.tg_car.specs.History.{History, at_piece, IsExact}

pub record CarLaws : Type 0 where
  -- no header begins another, a header is of one list of roots, and a list of roots has one header
  pub one_header : (a b : List (List ℕ)) (u v x y : List ℕ) → HeaderText a u → HeaderText b v → u ++ x ≡ v ++ y
      → (u ≡ v) × (a ≡ b)
  pub header_text : (roots : List (List ℕ)) (u v : List ℕ) → HeaderText roots u → HeaderText roots v → u ≡ v
  -- no section begins another, the bytes of a section are of one section, and a section has one text
  pub one_section : (a b : Section) (u v x y : List ℕ) → SectionText a u → SectionText b v → u ++ x ≡ v ++ y
      → (u ≡ v) × (a ≡ b)
  pub section_text : (section : Section) (u v : List ℕ) → SectionText section u → SectionText section v → u ≡ v
  -- a reader missed no refusal: no cause of one holds of the bytes that it took
  pub none_missed : (limit : ℕ) (h : History) (fault : CarFault) → IsExact limit h → HasCarCause limit h.fed fault → ⊥
  -- readers that took the same bytes gave the same, however they were cut
  pub one_division : (limit : ℕ) (g h : History) → IsExact limit g → IsExact limit h → g.fed ≡ h.fed → g.given ≡ h.given
  -- readers that were handed the same bytes and refused them had given the same and refused them alike, however they
  -- were cut and whatever followed
  pub one_refusal : (limit : ℕ) (g h : History) (p q x y : List ℕ) (e f : CarFault) → IsExact limit g → IsExact limit h
      → g.stop ≡ Some (at_piece p e) → h.stop ≡ Some (at_piece q f) → e ≢ OutOfMemory → f ≢ OutOfMemory
      → (g.fed ++ p) ++ x ≡ (h.fed ++ q) ++ y → (e ≡ f) × (g.given ≡ h.given)
