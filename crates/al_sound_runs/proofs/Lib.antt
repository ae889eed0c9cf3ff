mod Runs
