-- What is read of a file in front of its tail, and the contents with it.
use Rattle.std.specs.Prelude.{◌≡◌, ℕ, ◌+◌, ◌*◌, ◌≤◌, List, map, Option, Some, None}
use Rattle.text_spec.specs.Tokens.{tokens_of}
use Rattle.hub_spec.specs.Limits.{most_nodes}
use Rattle.file_spec.specs.Options.{australia_post, Options}
use Rattle.file_spec.specs.Contents.{Contents}
use Rattle.file_spec.specs.Places.{value_at}
use Rattle.file_spec.specs.Files.{file_size, fault_at}
use Rattle.hub_model.specs.Amounts.{natural}
use Rattle.hub_model.specs.declared.factors.Factors.{Factors}
use Rattle.token_reader.specs.Unread.{whole, later, values_here}
use Rattle.instance_ap.specs.declared.layout.Preamble.{Preamble}
use Rattle.instance_ap.specs.Points.{coordinates_of}
use Rattle.instance_ap.specs.Fronts.{points_front}

-- how many tokens a file with n nodes has in front of its tail
abbrev pub front_length : ℕ → ℕ
front_length n = 5 + 2 * n + n * n

-- the file gives this in front of its tail, and no token there has a fault
pub record IsFront (bytes : List ℕ) (front : Preamble) : Type 0 where
  pub size : front.n ≡ file_size (tokens_of bytes)
  pub size_limit : front.n ≤ most_nodes
  pub points : map coordinates_of front.points.items ≡ points_front front.n (later 1 (whole bytes))
  pub flows : front.flows ≡ values_here 6 (front.n * front.n) (later (1 + 2 * front.n) (whole bytes))
  pub listed_p : front.listed_p ≡ value_at (tokens_of bytes) 0 (2 + 2 * front.n + front.n * front.n)
  pub collect : natural front.factors.collect ≡ value_at (tokens_of bytes) 3 (3 + 2 * front.n + front.n * front.n)
  pub trunk : natural front.factors.trunk ≡ value_at (tokens_of bytes) 3 (4 + 2 * front.n + front.n * front.n)
  pub deliver : natural front.factors.deliver ≡ value_at (tokens_of bytes) 3 (5 + 2 * front.n + front.n * front.n)
  pub rest : front.rest ≡ later (front_length front.n) (whole bytes)
  pub legal : (o : Options) (t : ℕ) → 1 ≤ t → t ≤ front_length front.n → fault_at australia_post o (tokens_of bytes) t ≡ None

-- the contents of a file of these parts
abbrev pub contents_with : ℕ → List ℕ → List ℕ → ℕ → Factors → Option (List ℕ) → Contents
contents_with n flows distances listed_p factors costs = record {
  size = n;
  flows = flows;
  distances = distances;
  collect = natural factors.collect;
  trunk = natural factors.trunk;
  deliver = natural factors.deliver;
  listed_p = Some listed_p;
  costs = costs;
}
