-- What the words of a command line ask for.
use Rattle.std.specs.Prelude.{◌≡◌, ℕ, ◌≤◌, Bool, true, false, ◌||◌, List, Option, Some, None, IfSome, IsSome, is_some}
use Rattle.hub_spec.specs.Limits.{most_nodes}
use Rattle.file_spec.specs.Options.{Layout, australia_post, listed_number, Options, IsOptions, tail_costs}
use Rattle.hub_words.specs.Limits.{most_search_nodes, most_workers, most_seed, most_gap}

-- an instance as the words name it: the layout and name of its file, the options, and the name of the costs file
pub record Source : Type 0 where
  pub layout : Layout
  pub file : List ℕ
  pub options : Options
  pub costs : Option (List ℕ)

-- The limits of a search: the most nodes, if a number is given, the number of workers, and the version of its
-- certificate.
pub record Search : Type 0 where
  pub nodes : Option ℕ
  pub workers : ℕ
  pub version : ℕ

-- the rules of a search: node by node, the same with Pareto-optimal cuts where there are any, or in rounds of nodes
-- side by side
pub data SearchRule : Type 0 where
  node_by_node : SearchRule
  by_core_cuts : SearchRule
  by_rounds : SearchRule

-- How an instance is solved: by a rule, again node by node, or freely, by no rule. `again` has the file name of the
-- older certificate whose cuts are used. `freely` has a gap in thousandths of a per cent of the cost. It may have the
-- file name of an older certificate to begin with.
pub data How : Type 0 where
  follow : SearchRule → How
  again : (older : List ℕ) → How
  freely : (gap : ℕ) → (from : Option (List ℕ)) → How

-- what is to be solved, how, and by which search
pub record Solving : Type 0 where
  pub source : Source
  pub how : How
  pub search : Search

-- a made instance: its seed and its number of nodes
pub record Making : Type 0 where
  pub seed : ℕ
  pub size : ℕ

-- a command: solve an instance, check a certificate against it, report on a certificate, make an instance, or make and
-- solve one
pub data Request : Type 0 where
  solve : Solving → Request
  check : Source → (certificate : List ℕ) → Request
  report : Source → (certificate : List ℕ) → Request
  make : Making → Request
  demo : Making → Search → Request

-- the instance that a request names, if it names one
abbrev pub instance : Request → Option Source
instance (solve solving) = Some solving.source
instance (check source certificate) = Some source
instance (report source certificate) = Some source
instance (make making) = None
instance (demo making search) = None

-- the search that a request asks for, if it asks for one
abbrev pub search_of : Request → Option Search
search_of (solve solving) = Some solving.search
search_of (check source certificate) = None
search_of (report source certificate) = None
search_of (make making) = None
search_of (demo making search) = Some search

-- the instance that a request asks to be made, if it asks for one
abbrev pub making_of : Request → Option Making
making_of (solve solving) = None
making_of (check source certificate) = None
making_of (report source certificate) = None
making_of (make making) = Some making
making_of (demo making search) = Some making

-- what is to be solved, if a request asks for it
abbrev pub solved : Request → Option Solving
solved (solve solving) = Some solving
solved (check source certificate) = None
solved (report source certificate) = None
solved (make making) = None
solved (demo making search) = None

-- the name of the older certificate's file, if one is named
abbrev pub older_named : How → Option (List ℕ)
older_named (follow rule) = None
older_named (again older) = Some older
older_named (freely gap from) = from

-- how far the bound may be below the cost: by a rule not at all
abbrev pub gap_of : How → ℕ
gap_of (follow rule) = 0
gap_of (again older) = 0
gap_of (freely gap from) = gap

-- the length of routes is limited, or a number of hubs wanted
abbrev pub is_limited : Options → Bool
is_limited o = is_some o.longest || is_some o.hubs

-- the options are within their limits
abbrev pub HasOptions : Source → Type 0
HasOptions s = IsOptions s.options

-- the fixed costs come from one source at most: the costs file, the file's tail, one cost for all nodes
pub record AreSources (s : Source) : Type 0 where
  pub not_fixed : IsSome s.costs → s.options.fixed ≡ None
  pub no_tail : IsSome s.costs → s.options.tail ≡ tail_costs → ⊥
  pub not_fixed_too : s.options.tail ≡ tail_costs → s.options.fixed ≡ None

-- the wanted number of hubs is that of the file only where the file lists one
abbrev pub AsksListed : Source → Type 0
AsksListed s = s.options.hubs ≡ Some listed_number → s.layout ≡ australia_post

-- a version that a request may ask for
abbrev pub IsVersion : ℕ → Type 0
IsVersion v = (1 ≤ v) × (v ≤ 2)

-- with Pareto-optimal cuts neither the length of routes nor the number of hubs is limited, and the version is the
-- third
pub record AsksCoreCuts (o : Options) (version : ℕ) : Type 0 where
  pub unlimited : is_limited o ≡ false
  pub third : version ≡ 3

-- The options and the version of the certificate fit how the instance is solved. By rounds no number of hubs is
-- wanted. `again` writes the second version.
abbrev pub IsAllowed : How → Options → (version : ℕ) → Type 0
IsAllowed (follow node_by_node) o version = IsVersion version
IsAllowed (follow by_core_cuts) o version = AsksCoreCuts o version
IsAllowed (follow by_rounds) o version = (o.hubs ≡ None) × IsVersion version
IsAllowed (again older) o version = version ≡ 2
IsAllowed (freely gap from) o version = IsVersion version

-- where the length of routes is limited or a number of hubs wanted, the version is the second
abbrev pub SaysLimits : Options → (version : ℕ) → Type 0
SaysLimits o version = is_limited o ≡ true → version ≡ 2

-- a gap within its limit
abbrev pub IsGap : ℕ → Type 0
IsGap gap = gap ≤ most_gap

-- the request to solve is lawful
pub record IsSolving (s : Solving) : Type 0 where
  pub allowed : IsAllowed s.how s.source.options s.search.version
  pub sayable : SaysLimits s.source.options s.search.version
  pub gap : IsGap (gap_of s.how)

-- a search within its limits
pub record IsSearch (s : Search) : Type 0 where
  pub nodes : IfSome s.nodes (λ n. (1 ≤ n) × (n ≤ most_search_nodes))
  pub workers : (1 ≤ s.workers) × (s.workers ≤ most_workers)

-- a seed and a number of nodes within their limits
pub record IsMaking (m : Making) : Type 0 where
  pub seed : m.seed ≤ most_seed
  pub least : 1 ≤ m.size
  pub most : m.size ≤ most_nodes

-- what the request names, asks for and makes is within its limits
pub record IsLawful (r : Request) : Type 0 where
  pub limits : IfSome (instance r) HasOptions
  pub sources : IfSome (instance r) AreSources
  pub listed : IfSome (instance r) AsksListed
  pub searches : IfSome (search_of r) IsSearch
  pub solvings : IfSome (solved r) IsSolving
  pub makings : IfSome (making_of r) IsMaking
