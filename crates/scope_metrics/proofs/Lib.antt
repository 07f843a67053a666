mod LaidOut
mod ScopeItems
mod ScopeFamilies
mod PageItems
mod ScopedMetrics
mod OneScope
mod Unnamed
