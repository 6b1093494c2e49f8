-- The parts of a request for a search on which its certificate depends.
use Rattle.std.specs.Prelude.{ℕ, Option}
use Rattle.search_spec.specs.Again.{Start}
use Rattle.hub_words.specs.Requests.{Search, SearchRule, node_by_node, demo}

-- the course of a search by a rule: by which rule from scratch, or node by node from a warm start
pub data Course : Type 0 where
  cold : SearchRule → Course
  warm : Start → Course

-- the parts of a request on which the certificate depends: the version of the text, the most nodes, and the course
pub record Method : Type 0 where
  pub version : ℕ
  pub nodes : Option ℕ
  pub course : Course

-- of a search on this course
abbrev pub method_of : Search → Course → Method
method_of q course = record { version = q.version; nodes = q.nodes; course = course }

-- of `optimize`, whose answers read no course
abbrev pub free_method : Search → Method
free_method q = method_of q (cold node_by_node)

-- of `demo`, which reports a certificate of the first version
abbrev pub demo_method : Search → Method
demo_method q = record { version = 1; nodes = q.nodes; course = cold node_by_node }
