-- What a fill that is counted leads to.
use Rattle.std.proofs.Common.{◌≤◌, ℕ, subst, arith}
use Rattle.mix_base.specs.Counts.{HasRisen}
use Rattle.mix_mount.proofs.Rows.{few_pages, few_rows}
use Rattle.mix_mount.specs.Mounts.{most_rows}
use Rattle.mix_reach.specs.Reach.{CameFrom, CameUncounted, Reaching}

-- where a state came from another by a fill that isn't counted yet, it came from it once the fill is counted
pub came_counted : (a b : Reaching) (fills : ℕ) → CameUncounted a b → b.fills ≤ fills → HasRisen b.fills fills
    → CameFrom a (record { mounted = b.mounted; sites = b.sites; fars = b.fars; fills = fills })
came_counted a b fills x more rose =
    let since : HasRisen a.fills fills = subst (λ n. HasRisen n fills) x.fills rose in
    record {
      mounted = x.mounted;
      sites = x.sites;
      fars = x.fars;
      fills = omega (arith, x.fills, more);
      pages = few_pages a.mounted.tables.pages b.mounted.tables.pages a.fills fills x.pages since;
      rows = few_rows (most_rows a.mounted.docs) a.mounted.tables.rows b.mounted.tables.rows a.fills fills x.rows since;
    }
