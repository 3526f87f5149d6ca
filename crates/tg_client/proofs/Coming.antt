-- What came of an input so far.
use Rattle.std.proofs.Common.{ℕ, List, [], ◌++◌}
use Rattle.tg_client.specs.Body.{WentOn}
use Rattle.tg_client.specs.declared.body.CarBody.{CarBody}
use Rattle.tg_streams.specs.Joining.{SinkJoins, SourceJoins, put_nothing, put_put, took_nothing, took_took, took_untaken}
use Rattle.tg_streams.specs.Streams.{Ended, Input, Output, SinkMeaning, SourceMeaning, Took, Untaken, into, through}
use Rattle.tg_client.specs.Body.{IsBody}

-- these bytes were taken, and the body stands for them
pub record HasCome (body : CarBody) (input : Input) (out : Output) : Type 0 where
  pub heard : List ℕ
  pub took : Took heard input
  pub went : WentOn body heard [] out

module _ {I S : Type 0} (m : SourceMeaning I) (joins : SourceJoins I m) (n : SinkMeaning S) (puts : SinkJoins S n) where
  pub come_first : (a : I) (x : S) (body : CarBody) → m.took a a [] → n.wrote x x [] → IsBody body [] [] [] → HasCome body (through m a a) (into n x x)
  come_first a x body rests stays h = record {
    heard = [];
    took = took_nothing I m a rests;
    went = record { sections = []; text = []; put = put_nothing S n x stays; is_body = h };
  }

  pub come_none : (a b c : I) (x y : S) (body : CarBody) → HasCome body (through m a b) (into n x y) → Untaken (through m b c) → HasCome body (through m a c) (into n x y)
  come_none a b c x y body come none = record { heard = come.heard; took = took_untaken I m a b c come.heard joins come.took none; went = come.went }

  pub come_more : (a b c : I) (x y z : S) (old new : CarBody) (bytes : List ℕ) → (come : HasCome old (through m a b) (into n x y)) → Took bytes (through m b c)
      → WentOn new (come.heard ++ bytes) come.went.text (into n y z) → HasCome new (through m a c) (into n x z)
  come_more a b c x y z old new bytes come took went = record {
    heard = come.heard ++ bytes;
    took = took_took I m a b c come.heard bytes joins come.took took;
    went = record {
      sections = went.sections;
      text = come.went.text ++ went.text;
      put = put_put S n x y z come.went.text went.text puts come.went.put went.put;
      is_body = went.is_body;
    };
  }

  pub ended_there : (a b c : I) → Ended (through m b c) → Ended (through m a c)
  ended_there a b c e = record { ended = e.ended; nothing = e.nothing }
