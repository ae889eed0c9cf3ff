mod IndexedAre
mod SharedAre
mod TextsAre
mod SitesAre
mod BranchesAre
