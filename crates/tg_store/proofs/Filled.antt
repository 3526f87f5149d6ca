-- What was done to a pack that is filled, and what it holds.
use Rattle.std.proofs.Common.{◌≡◌, inl, inr, ℕ, List, [], ◌∷◌, ◌++◌, map, Option, Some, None, IfSome, refl, subst, sym}
use Rattle.std.specs.Prelude.{All}
use Rattle.std.proofs.lemmas.List.Elements.{All-append, All-cons, All-nil}
use Rattle.tg_car.specs.CarText.{CarText}
use Rattle.tg_car.specs.declared.section.Section.{Section as CarSection}
use Rattle.tg_cid.specs.Cid.{CidParts}
use Rattle.tg_cid.specs.Spelling.{CidBytes}
use Rattle.tg_files.specs.Packs.PackWrite.{append, overwrite, torn}
use Rattle.tg_files.specs.Packs.{PackMeaning, PackWrite, did_joins, overwritten, pack_step}
use Rattle.tg_model.specs.Dag.{Section}
use Rattle.tg_model.specs.Stores.{AreKeptAs}
use Rattle.tg_store.specs.Entries.{first_of_each}
use Rattle.tg_store.specs.Filling.{Grows, GrowsWithRoot, IsBegun, IsCarOfRoot, IsUnfinished, StaysTold, StopsWriting, WritesPack}
use Rattle.tg_store.specs.Finishing.{HasFinishCause, HasRoot, IsCreated, IsFinished, IsNew, IsNotCreated, IsNotFinished}
use Rattle.tg_store.specs.Packs.{HasKept, IsGrowth, PackStoreState, in_car, stored_in, unfinished_root}
use Rattle.tg_store.specs.declared.fault.PackFault.TheVariants as pack_faults
use Rattle.tg_store.specs.declared.fault.PackFault.{PackFault}
use Rattle.tg_store.specs.declared.fault.PackRefused.{PackRefused}
use Rattle.tg_store.specs.declared.key.Key.{Key}
use Rattle.tg_store.specs.declared.place.Place.{Place}

unfinished_told : (held : Option (List ℕ)) (sections : List CarSection) → ((content : List ℕ) → held ≡ Some content → CarText (unfinished_root ∷ []) sections content)
    → IfSome held IsUnfinished
unfinished_told None sections car = tt
unfinished_told (Some content) sections car = record { sections = sections; text = car content refl }

-- what isn't told is as it may be
untold_unfinished : (held : Option (List ℕ)) → held ≡ None → IfSome held IsUnfinished
untold_unfinished None h = tt
untold_unfinished (Some content) h = cc

rooted : (root : CidParts) (name : List ℕ) (sections : List Section) (old new : Option (List ℕ)) → CidBytes root name
    → ((content : List ℕ) → old ≡ Some content → CarText (unfinished_root ∷ []) (map in_car (first_of_each sections)) content)
    → HasRoot old new (0 ∷ name) → IfSome new (IsCarOfRoot root sections)
rooted root name sections old None spelled car given = tt
rooted root name sections None (Some new) spelled car given = absurd given
rooted root name sections (Some old) (Some new) spelled car given =
    record { name = name; spelled = spelled; text = given unfinished_root (map in_car (first_of_each sections)) (car old refl) }

-- a store that tells what it keeps has a pack that tells what it holds
kept_told : (old new : Option (List ℕ)) (before after : List (Key × Place)) (sections : List Section) → AreKeptAs (stored_in old before) (stored_in new after) sections → StaysTold old new
kept_told None new before after sections h = tt
kept_told (Some old) None before after sections h = h
kept_told (Some old) (Some new) before after sections h = tt

overwritten_told : (old new : Option (List ℕ)) (bytes : List ℕ) → new ≡ overwritten old 0 bytes → StaysTold old new
overwritten_told None new bytes h = tt
overwritten_told (Some old) None bytes h = cc
overwritten_told (Some old) (Some new) bytes h = tt

told_joins : (a b c : Option (List ℕ)) → StaysTold a b → StaysTold b c → StaysTold a c
told_joins None b c h k = tt
told_joins (Some a) None c h k = absurd h
told_joins (Some a) (Some b) None h k = k
told_joins (Some a) (Some b) (Some c) h k = tt

-- ---- what was done to the pack

module _ {P : Type 0} (m : PackMeaning P) (joins : (a b c : P) (u v : List PackWrite) → m.did a b u → m.did b c v → m.did a c (u ++ v)) where
  pub kept_grows : (a b : PackStoreState P) (sections : List Section) → HasKept m a b sections → Grows (pack_step m a.pack b.pack)
  kept_grows a b sections kept = record { writes = kept.writes; did = kept.did; growth = kept.growth }

  pub finished_grows : (a b c : PackStoreState P) (sections : List Section) (root : CidParts) → HasKept m a b sections → IsFinished m b c root
      → GrowsWithRoot root (pack_step m a.pack c.pack)
  finished_grows a b c sections root kept finished = record {
    writes = kept.writes;
    growth = kept.growth;
    name = finished.name;
    spelled = finished.spelled;
    header = finished.header;
    text = finished.text;
    did = did_joins m joins a.pack b.pack c.pack kept.writes (overwrite 0 finished.header ∷ []) kept.did finished.did;
  }

  finish_grows : (b c : P) (fault : PackFault) → HasFinishCause m b c fault → Grows (pack_step m b c)
  finish_grows b c pack_faults.Failed h = record { writes = torn ∷ []; did = h.0; growth = All-cons IsGrowth torn [] tt (All-nil IsGrowth) }
  finish_grows b c pack_faults.OutOfMemory h = record { writes = []; did = h.0; growth = All-nil IsGrowth }
  finish_grows b c (pack_faults.NotCar at) h = absurd h
  finish_grows b c (pack_faults.BadDigest at) h = absurd h
  finish_grows b c pack_faults.Unfinished h = absurd h
  finish_grows b c (pack_faults.Truncated at) h = absurd h
  finish_grows b c (pack_faults.BlockLimit at) h = absurd h

  pub failed_grows : (a b c : PackStoreState P) (sections : List Section) (fault : PackFault) → HasKept m a b sections → IsNotFinished m b c fault
      → Grows (pack_step m a.pack c.pack)
  failed_grows a b c sections fault kept failed =
      let last = finish_grows b.pack c.pack fault failed.cause in
      record {
        writes = kept.writes ++ last.writes;
        did = did_joins m joins a.pack b.pack c.pack kept.writes last.writes kept.did last.did;
        growth = All-append IsGrowth kept.writes last.writes kept.growth last.growth;
      }

  -- behind the header that was written first
  begun : (pack : P) (a : PackStoreState P) (more : List PackWrite) → (made : IsCreated m pack a) → All IsGrowth more → IsBegun (append made.header ∷ more)
  begun pack a more made growth = record { header = made.header; text = made.text; more = more; are = refl; growth = growth }

  pub created_stops : (pack c : P) (a : PackStoreState P) → IsCreated m pack a → Grows (pack_step m a.pack c) → StopsWriting (pack_step m pack c)
  created_stops pack c a made grows = record {
    writes = append made.header ∷ grows.writes;
    did = did_joins m joins pack a.pack c (append made.header ∷ []) grows.writes made.did grows.did;
    begins = inr (begun pack a grows.writes made grows.growth);
  }

  pub created_writes : (pack c : P) (a : PackStoreState P) (root : CidParts) → IsCreated m pack a → GrowsWithRoot root (pack_step m a.pack c) → WritesPack root (pack_step m pack c)
  created_writes pack c a root made grows = record {
    writes = append made.header ∷ grows.writes;
    begins = begun pack a grows.writes made grows.growth;
    name = grows.name;
    spelled = grows.spelled;
    header = grows.header;
    text = grows.text;
    did = did_joins m joins pack a.pack c (append made.header ∷ []) (grows.writes ++ overwrite 0 grows.header ∷ []) made.did grows.did;
  }

  pub refused_stops : (pack : P) (refused : PackRefused P) → IsNotCreated m pack refused → StopsWriting (pack_step m pack refused.pack)
  refused_stops pack refused h = record { writes = torn ∷ []; did = h.untold; begins = inl refl }

module _ {P : Type 0} (m : PackMeaning P) (car : (a b : PackStoreState P) (sections : List Section) (content : List ℕ) → IsNew m a → HasKept m a b sections
    → m.content b.pack ≡ Some content → CarText (unfinished_root ∷ []) (map in_car (first_of_each sections)) content) where
  -- a pack in which sections were kept isn't finished
  pub kept_unfinished : (a b : PackStoreState P) (sections : List Section) → IsNew m a → HasKept m a b sections → IfSome (m.content b.pack) IsUnfinished
  kept_unfinished a b sections new kept =
      unfinished_told (m.content b.pack) (map in_car (first_of_each sections)) (λ content told. car a b sections content new kept told)

  -- a pack in which sections were kept and which was finished is a CAR of them with the root
  pub finished_car : (a b c : PackStoreState P) (sections : List Section) (root : CidParts) → IsNew m a → HasKept m a b sections → IsFinished m b c root
      → IfSome (m.content c.pack) (IsCarOfRoot root sections)
  finished_car a b c sections root new kept finished =
      rooted root finished.name sections (m.content b.pack) (m.content c.pack) finished.spelled (λ content told. car a b sections content new kept told) finished.root_is

  -- it tells what it holds, where it did before
  pub finished_told : (a b c : PackStoreState P) (sections : List Section) (root : CidParts)
      → AreKeptAs (stored_in (m.content a.pack) a.places) (stored_in (m.content b.pack) b.places) sections → IsFinished m b c root
      → StaysTold (m.content a.pack) (m.content c.pack)
  finished_told a b c sections root kept finished =
      told_joins (m.content a.pack) (m.content b.pack) (m.content c.pack)
      (kept_told (m.content a.pack) (m.content b.pack) a.places b.places sections kept)
      (overwritten_told (m.content b.pack) (m.content c.pack) finished.header finished.did.content)

  same_unfinished : (old new : Option (List ℕ)) → IfSome old IsUnfinished → new ≡ old → IfSome new IsUnfinished
  same_unfinished old new h same = subst (λ (held : Option (List ℕ)). IfSome held IsUnfinished) (sym same) h

  -- where `finish` failed it isn't finished either
  pub cause_unfinished : (a b c : PackStoreState P) (sections : List Section) (fault : PackFault) → IsNew m a → HasKept m a b sections
      → HasFinishCause m b.pack c.pack fault → IfSome (m.content c.pack) IsUnfinished
  cause_unfinished a b c sections pack_faults.Failed new kept h = untold_unfinished (m.content c.pack) h.0.content
  cause_unfinished a b c sections pack_faults.OutOfMemory new kept h = same_unfinished (m.content b.pack) (m.content c.pack) (kept_unfinished a b sections new kept) h.0.content
  cause_unfinished a b c sections (pack_faults.NotCar at) new kept h = absurd h
  cause_unfinished a b c sections (pack_faults.BadDigest at) new kept h = absurd h
  cause_unfinished a b c sections pack_faults.Unfinished new kept h = absurd h
  cause_unfinished a b c sections (pack_faults.Truncated at) new kept h = absurd h
  cause_unfinished a b c sections (pack_faults.BlockLimit at) new kept h = absurd h
