-- The text of a section that is given as its head and its block.
use Rattle.std.proofs.Common.{List, append_assoc, subst, ℕ, ◌++◌}
use Rattle.tg_car.specs.CarText.{SectionText}
use Rattle.tg_export.specs.Given.{FailsIn, Gives, HasText, giving_in}
use Rattle.tg_model.specs.Dag.{Section}
use Rattle.tg_store.specs.Packs.{in_car}
use Rattle.tg_streams.specs.Gathering.{Gave, gave_front, gave_gave}
use Rattle.tg_streams.specs.Joining.{SinkJoins, put_front_more}
use Rattle.tg_streams.specs.Streams.{PutFront, SinkMeaning, into}

module _ {S : Type 0} (m : SinkMeaning S) (a b c : S) (section : Section) (head block : List ℕ)
    (is : SectionText (in_car section) (head ++ block)) where
  -- both were given
  pub both_given : (g0 g1 g2 : List ℕ) → SinkJoins S m → Gave head g0 g1 (into m a b) → Gave block g1 g2 (into m b c)
      → HasText section (Gives (giving_in g0 g2 (into m a c)))
  both_given g0 g1 g2 joins first next = record {
    text = head ++ block;
    text_is = is;
    is_done = gave_gave _ m a b c head block g0 g1 g2 joins first next;
  }

  -- out failed in the head
  pub head_failed : (g0 g1 : List ℕ) → PutFront (g0 ++ head) (into m a b)
      → HasText section (FailsIn (giving_in g0 g1 (into m a b)))
  head_failed g0 g1 h = record {
    text = head ++ block;
    text_is = is;
    is_done = subst (λ (bytes : List ℕ). PutFront bytes (into m a b)) (append_assoc g0 head block)
        (put_front_more _ m a b (g0 ++ head) block h);
  }

  -- or in the block
  pub block_failed : (g0 g1 g2 : List ℕ) → SinkJoins S m → Gave head g0 g1 (into m a b)
      → PutFront (g1 ++ block) (into m b c) → HasText section (FailsIn (giving_in g0 g2 (into m a c)))
  block_failed g0 g1 g2 joins first next = record {
    text = head ++ block;
    text_is = is;
    is_done = gave_front _ m a b c head block g0 g1 joins first next;
  }
