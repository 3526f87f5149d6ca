-- Lines that are gathered and put, one after another.
use Rattle.std.proofs.Common.{◌≡◌, List, ℕ, ◌++◌, append_assoc, ap, subst, sym, ◌∙◌}
use Rattle.tg_listing.specs.Listings.{PutBut}
use Rattle.tg_streams.specs.Joining.{SinkJoins, put_front_more, put_put, put_put_front}
use Rattle.tg_streams.specs.Streams.{PutFront, SinkMeaning, into}

module _ {S : Type 0} (m : SinkMeaning S) (a b c : S) (joins : SinkJoins S m) where
  whole_on : (front old line text : List ℕ) → text ≡ front ++ old → text ++ line ≡ front ++ (old ++ line)
  whole_on front old line text e = ap (λ (l : List ℕ). l ++ line) e ∙ append_assoc front old line

  -- a text was put but for a rest, and then the rest with a line was put but for another
  pub put_on : (old new line text : List ℕ) → PutBut old text (into m a b) → PutBut new (old ++ line) (into m b c) → PutBut new (text ++ line) (into m a c)
  put_on old new line text p q = record {
    front = p.front ++ q.front;
    whole = whole_on p.front old line text p.whole ∙ ap (λ (l : List ℕ). p.front ++ l) q.whole ∙ sym (append_assoc p.front q.front new);
    put = put_put S m a b c p.front q.front joins p.put q.put;
    quiet = q.quiet ∙ p.quiet;
  }

  -- or a front of the rest with a line
  front_on : (old line text : List ℕ) → PutBut old text (into m a b) → PutFront (old ++ line) (into m b c) → PutFront (text ++ line) (into m a c)
  front_on old line text p q =
      subst (λ (bytes : List ℕ). PutFront bytes (into m a c)) (sym (whole_on p.front old line text p.whole))
      (put_put_front S m a b c p.front (old ++ line) joins p.put p.quiet q)

  -- then no more of the text with the line, and of what comes behind them, is put
  pub stops_on : (old line text more : List ℕ) → PutBut old text (into m a b) → PutFront (old ++ line) (into m b c) → PutFront ((text ++ line) ++ more) (into m a c)
  stops_on old line text more p q = put_front_more S m a c (text ++ line) more (front_on old line text p q)

  -- a text was put but for a rest, and then a front of the rest was put
  pub front_rest : (rest text : List ℕ) → PutBut rest text (into m a b) → PutFront rest (into m b c) → PutFront text (into m a c)
  front_rest rest text p q =
      subst (λ (bytes : List ℕ). PutFront bytes (into m a c)) (sym p.whole) (put_put_front S m a b c p.front rest joins p.put p.quiet q)
