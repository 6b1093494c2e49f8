-- The versions of a text by their numbers.
use Rattle.std.proofs.Common.{◌≡◌, ℕ, inl, inr, refl, sym, ap, ◌∙◌}
use Rattle.cert_spec.specs.Grammar.{IsVersion}
use Rattle.cert_scan.specs.Versions.{version_number, version_of}
use Rattle.cert_scan.specs.declared.items.Version.{Version}
use Rattle.cert_scan.specs.declared.items.Version.TheVariants.{First, Second, Third}

-- a version has its number
pub version_back : (version : Version) → version_of (version_number version) ≡ version
version_back First = refl
version_back version = refl

-- and a number its version
pub number_back : (v : ℕ) → IsVersion v → version_number (version_of v) ≡ v
number_back v (inl first) = ap (λ x. version_number (version_of x)) first ∙ sym first
number_back v (inr (inl second)) = ap (λ x. version_number (version_of x)) second ∙ sym second
number_back v (inr (inr third)) = ap (λ x. version_number (version_of x)) third ∙ sym third
