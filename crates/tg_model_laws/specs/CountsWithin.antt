-- The counts of a traversal that gives a front of what another gives are within the other's.
use Rattle.std.proofs.Common.{◌≡◌, ◌∙◌, ◌++◌, ℕ, ◌+◌, ◌≤◌, Bool, true, false, List, [], ◌∷◌, ap, length, refl, arith}
use Rattle.std.proofs.lemmas.List.{length-append}
use Rattle.std.specs.List.{flat_map}
use Rattle.tg_model_laws.specs.SentSections.{asked_append, sent_front}
use Rattle.tg_model_laws.specs.ListFronts.{FrontOf, front-greatest, front-length, front-most, front-sum, front_joined, front_mapped}
use Rattle.tg_model.specs.Counts.{counts_of, each_counted, greatest, if_once, met_beside, met_line, met_with, names_size}
use Rattle.tg_model.specs.Dag.{Section}
use Rattle.tg_model.specs.LimitNumbers.{AreWithin}
use Rattle.tg_model.specs.Queries.{QueryParts}
use Rattle.tg_model.specs.Traversal.{ListedEntry, Place, Traversal, asked, sections_of, sent}

-- ---- one traversal beside another

-- the places, the text and what is met are fronts of the other's
pub record GivesFront (t u : Traversal) : Type 0 where
  pub places : FrontOf t.places u.places
  pub text : FrontOf t.text u.text
  pub met : FrontOf t.met u.met

-- ---- what is met of one directory

-- of entries and others behind them
each_counted-append : (count : List ListedEntry → ℕ) (before met more : List ListedEntry)
    → (rest : List ℕ) × (each_counted count before (met ++ more) ≡ each_counted count before met ++ rest)
each_counted-append count before [] more = (each_counted count before more, refl)
each_counted-append count before (m ∷ met) more =
    let behind = each_counted-append count (met_with before m) met more in
    (behind.0, ap (λ (ns : List ℕ). count (met_beside before m) ∷ ns) behind.1)

-- so what is counted of a front is a front of what is counted, and not above it
counted_within : (count : List ListedEntry → ℕ) (met all : List ListedEntry) → FrontOf met all → greatest (each_counted count [] met) ≤ greatest (each_counted count [] all)
counted_within count met all h =
    let more = each_counted-append count [] met h.rest in
    front-most (each_counted count [] met) (each_counted count [] all) (record { rest = more.0; is = ap (each_counted count []) h.is ∙ more.1 })

-- ---- what is sent

-- what is sent for a front of sections is a front of what is sent, and behind it no more is sent than is asked for
record SentFront (q : QueryParts) (sections all : List Section) : Type 0 where
  front : FrontOf (sent q sections) (sent q all)
  later : length (sent q all) + length (asked q sections) ≤ length (sent q sections) + length (asked q all)

front_sent : (q : QueryParts) (sections all : List Section) → FrontOf sections all → SentFront q sections all
front_sent q sections all h =
    let more = sent_front q sections h.rest in
    let whole : sent q all ≡ sent q sections ++ more.0 = ap (sent q) h.is ∙ more.1 in
    let asks : asked q all ≡ asked q sections ++ asked q h.rest = ap (asked q) h.is ∙ asked_append q sections h.rest in
    record {
      front = record { rest = more.0; is = whole };
      later = omega (arith, ap length whole, length-append (sent q sections) more.0, ap length asks, length-append (asked q sections) (asked q h.rest), more.2);
    }

-- what is counted where each block is sent once
once_within : (dups : Bool) (n most : ℕ) → n ≤ most → if_once dups n ≤ if_once dups most
once_within true n most h = omega arith
once_within false n most h = h

-- ---- all counts

-- the counts of a traversal that gives a front
pub counts_within : (q : QueryParts) (t u : Traversal) → GivesFront t u → AreWithin (counts_of q u) (counts_of q t)
counts_within q t u h =
    let opened : FrontOf (sections_of t.places) (sections_of u.places) = front_mapped (λ (p : Place). p.section) t.places u.places h.places in
    let given : SentFront q (sections_of t.places) (sections_of u.places) = front_sent q (sections_of t.places) (sections_of u.places) opened in
    let size : Section → ℕ = λ section. length section.block in
    let sections = given.front in
    let sizes = front_mapped size _ _ sections in
    let places : length t.places ≤ length u.places = front-length t.places u.places h.places in
    let text : length t.text ≤ length u.text = front-length t.text u.text h.text in
    let lines : length (flat_map met_line t.met) ≤ length (flat_map met_line u.met) = front-length _ _ (front_joined met_line t.met u.met h.met) in
    record {
      block = front-greatest size size _ _ (λ section. omega arith) sections;
      depth = front-greatest (λ (p : Place). p.depth) (λ (p : Place). p.depth) t.places u.places (λ p. omega arith) h.places;
      entries = counted_within length t.met u.met h.met;
      names = counted_within names_size t.met u.met h.met;
      received = omega arith;
      output = omega arith;
      seen_blocks = once_within q.dups _ _ (front-length _ _ sections);
      seen_bytes = once_within q.dups _ _ (front-sum _ _ sizes);
      reused = once_within q.dups _ _ (omega (arith, given.later));
    }
