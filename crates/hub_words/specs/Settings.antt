-- The options that are single values as contracts see them.
use Rattle.std.specs.Prelude.{ℕ, ◌≤◌, Option, None, IfSome, IsNone, ◌⊎◌, option_map}
use Rattle.hub_spec.specs.Limits.{most_factor, most_length}
use Rattle.file_spec.specs.Options.{HubNumber, IsHubNumber, Options}
use Rattle.hub_model.specs.Asked.{order_of, tail_of, number_of}
use Rattle.hub_words.specs.declared.settings.FactorSettings.{FactorSettings}
use Rattle.hub_words.specs.declared.settings.PlanLimits.{PlanLimits}
use Rattle.hub_words.specs.declared.settings.Settings.{Settings}

-- the factors for collection, trunk and delivery
abbrev pub factors_of : FactorSettings → Option ℕ × Option ℕ × Option ℕ
factors_of f = (f.collect, f.trunk, f.deliver)

-- a factor in 10^-3 within its limit
abbrev pub IsFactor : Option ℕ → Type 0
IsFactor factor = IfSome factor (λ x. x ≤ most_factor)

-- each factor is within its limit
pub record IsFactors (f : FactorSettings) : Type 0 where
  pub collect : IsFactor f.collect
  pub trunk : IsFactor f.trunk
  pub deliver : IsFactor f.deliver

-- the longest route and the number of hubs
abbrev pub limits_of : PlanLimits → Option ℕ × Option HubNumber
limits_of l = (l.longest, option_map number_of l.hubs)

-- each is within its limit, and not both are given
pub record AreLimits (l : PlanLimits) : Type 0 where
  pub longest : IfSome l.longest (λ most. most ≤ most_length)
  pub hubs : IfSome (option_map number_of l.hubs) IsHubNumber
  pub not_both : IsNone l.longest ⊎ IsNone (option_map number_of l.hubs)

-- the options, with no candidates
abbrev pub settings_of : Settings → Options
settings_of s = record {
  order = order_of s.order;
  tail = tail_of s.tail;
  divide = s.divide;
  collect = s.factors.collect;
  trunk = s.factors.trunk;
  deliver = s.factors.deliver;
  fixed = s.fixed;
  candidates = None;
  no_self = s.no_self;
  longest = s.limits.longest;
  hubs = option_map number_of s.limits.hubs;
}
